-- A join puts the sum of two counts in their place, and an emptied row counts nothing, so the total stays.
use mathlib.Core.Path.{◌≡◌, refl, ap, ◌∙◌}
use mathlib.Core.List.{List, [], ◌∷◌}
use Prim.Native.Nat.{ℕ, zero, suc, ◌+◌, ◌-◌, ◌<◌}
use native.Mathlib.Nat.{not-suc-le-zero, le_of_suc-le-suc, lt_irrefl}
use native.Mathlib.Omega.{arith}
use lib.ListN.{length, replicate}
use lib.Ieee.{Float}
use Rattle.timeline.specs.Segments.{emptied, joined}
use Rattle.timeline.specs.Counts.{total_windows}
use Rattle.timeline.specs.declared.segment.Segment.{Segment}
use Rattle.timeline.proofs.Counts.{total-append, total-emptied}
use Rattle.shortening.specs.Shorten.{first_short, keeper, join_at, join_short, shortened_of, left_in}
use Rattle.shortening.specs.Counts.{CountsStay}
use Rattle.shortening.proofs.Settles.{join_at-first, join_at-more, keeper-within, several, found, shorten-keeps}

joined-total : (p : ℕ) (segments : List Segment) → suc p < length segments → total_windows (join_at p segments) ≡ total_windows segments
unfolding total_windows joined
joined-total p [] h = absurd (not-suc-le-zero h)
joined-total zero (s ∷ []) h = absurd (lt_irrefl 1 h)
joined-total zero (s ∷ t ∷ r) h =
    let sum : s.windows + t.windows + total_windows r ≡ s.windows + (t.windows + total_windows r) = omega arith in
    ap total_windows (join_at-first s t r) ∙ sum
joined-total (suc p) (s ∷ r) h = ap total_windows (join_at-more p s r) ∙ ap (λ (n : ℕ). s.windows + n) (joined-total p r (le_of_suc-le-suc h))

module _ (least : Float) (segments : List Segment) where
  shortened-total : total_windows (shortened_of least segments) ≡ total_windows segments
  unfolding shortened_of join_short
  shortened-total =
      shorten-keeps (λ (r : List Segment). total_windows r ≡ total_windows segments) least
      (λ r t same. joined-total (keeper r (first_short least r)) r (keeper-within r (first_short least r) (several least r t) (found least r t)) ∙ same) (length segments) segments refl

  left-total : total_windows (left_in least segments) ≡ total_windows segments
  unfolding left_in
  left-total =
      let emptied-rows = replicate (length segments - length (shortened_of least segments)) emptied in
      let sum = total-append (shortened_of least segments) emptied-rows in
      let nothing = total-emptied (length segments - length (shortened_of least segments)) in
      omega (arith, sum, nothing, shortened-total)

pub counts-stay : CountsStay
counts-stay segments =
    record {
      joined = λ p h. joined-total p segments (omega arith);
      shortened = λ least. shortened-total least segments;
      left = λ least. left-total least segments;
    }
