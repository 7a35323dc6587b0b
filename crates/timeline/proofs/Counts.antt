-- Sums of counts: of two lists one behind the other, of emptied rows, and of two neighbours among others.
use mathlib.Core.Path.{◌≡◌, refl}
use mathlib.Core.List.{List, [], ◌∷◌, ◌++◌}
use Prim.Native.Nat.{ℕ, zero, suc, ◌+◌, ◌<◌, ◌≤◌}
use native.Mathlib.Nat.{not-suc-le-zero, le_of_suc-le-suc}
use native.Mathlib.Omega.{arith}
use lib.ListN.{length, replicate}
use Rattle.timeline.specs.Segments.{emptied, segment_at}
use Rattle.timeline.specs.Counts.{total_windows}
use Rattle.timeline.specs.declared.segment.Segment.{Segment}

pub total-append : (xs ys : List Segment) → total_windows (xs ++ ys) ≡ total_windows xs + total_windows ys
unfolding total_windows
total-append [] ys = omega arith
total-append (x ∷ xs) ys = let rest = total-append xs ys in omega (arith, rest)

pub total-emptied : (k : ℕ) → total_windows (replicate k emptied) ≡ 0
unfolding total_windows
total-emptied zero = refl
total-emptied (suc k) = let rest = total-emptied k in omega (arith, rest)

one-within : (xs : List Segment) (i : ℕ) → i < length xs → (segment_at xs i).windows ≤ total_windows xs
unfolding total_windows
one-within [] i h = absurd (not-suc-le-zero h)
one-within (x ∷ xs) zero h = omega arith
one-within (x ∷ xs) (suc i) h = let rest = one-within xs i (le_of_suc-le-suc h) in omega (arith, rest)

pub two-within : (xs : List Segment) (i j : ℕ) → i < j → j < length xs → (segment_at xs i).windows + (segment_at xs j).windows ≤ total_windows xs
unfolding total_windows
two-within [] i j less h = absurd (not-suc-le-zero h)
two-within (x ∷ xs) i zero less h = absurd (not-suc-le-zero less)
two-within (x ∷ xs) zero (suc j) less h = let rest = one-within xs j (le_of_suc-le-suc h) in omega (arith, rest)
two-within (x ∷ xs) (suc i) (suc j) less h = let rest = two-within xs i j (le_of_suc-le-suc less) (le_of_suc-le-suc h) in omega (arith, rest)
