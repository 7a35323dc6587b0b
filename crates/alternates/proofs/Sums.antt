-- Sums of seconds, turn by turn: they are no NaN and have the sign plus, they grow, and the order ranks them.
use mathlib.Core.Path.{◌≡◌, sym, ap, ◌∙◌, subst}
use mathlib.Core.List.{List, [], ◌∷◌, ◌++◌, map, map-append}
use Prim.Native.Nat.{ℕ, zero, suc, ◌+◌, ◌<◌}
use native.Mathlib.Numerals.{add-one}
use native.Mathlib.Nat.{not-suc-le-zero}
use lib.ListN.{length}
use lib.Dec.{T}
use lib.Ieee.{Float, binary64, add, le}
use lib.Ieee.Fits.{add-fits}
use Rattle.laws.specs.Lists.{passing, fold}
use Rattle.laws.specs.Front.{list}
use Rattle.laws.specs.Values.{plus_zero, minus_zero, clear}
use Rattle.laws.proofs.Lists.{fold_more}
use Rattle.laws.proofs.Front.{list-more, list-own}
use Rattle.laws.proofs.Every.{and_last}
use Rattle.laws.proofs.Order.{le_trans}
use Rattle.laws.proofs.Nonneg.{add-clear}
use Rattle.laws.proofs.Pick.{max-zero-clear, max-fits}
use Rattle.laws.proofs.Zero.{plus_zero-held, minus_zero-add, add_right, add_left}
use Rattle.timeline.specs.Segments.{emptied, seconds, segment_at}
use Rattle.timeline.specs.declared.segment.Segment.{Segment}
use Rattle.longest.proofs.Lengths.{InFormat, seconds-fits}
use Rattle.alternates.specs.Alternate.{held_seconds, lasts_in, summed_from, total_of, seconds_of}

-- a value that binary64 holds, with the sign plus and no NaN
pub record Amount (x : Float) : Type 0 where
  pub in_format : InFormat x
  pub plus : T (clear x)

pub held-amount : (s : Segment) → Amount (held_seconds s)
unfolding held_seconds
held-amount s = record { in_format = max-fits binary64 (seconds s) plus_zero (seconds-fits s) (plus_zero-held binary64).in_format; plus = max-zero-clear (seconds s) }

zero-amount : Amount plus_zero
zero-amount = record { in_format = (plus_zero-held binary64).in_format; plus = tt }

more-amount : (sum : Float) (s : Segment) → Amount sum → Amount (add binary64 sum (held_seconds s))
more-amount sum s a = record { in_format = add-fits binary64 sum (held_seconds s); plus = add-clear binary64 sum (held_seconds s) a.plus (held-amount s).plus }

-- ---- sums of lengths
pub summed-more : (sum : Float) (segments : List Segment) (s : Segment) → summed_from sum (segments ++ (s ∷ [])) ≡ add binary64 (summed_from sum segments) (held_seconds s)
summed-more sum segments s = ap (fold (add binary64) sum) (map-append held_seconds segments (s ∷ [])) ∙ fold_more (add binary64) sum (map held_seconds segments) (held_seconds s)

pub total-more : (segments : List Segment) (s : Segment) → total_of (segments ++ (s ∷ [])) ≡ add binary64 (total_of segments) (held_seconds s)
unfolding total_of
total-more = summed-more minus_zero

summed-amount : (segments : List Segment) (sum : Float) → Amount sum → Amount (summed_from sum segments)
unfolding fold
summed-amount [] sum a = a
summed-amount (s ∷ segments) sum a = summed-amount segments (add binary64 sum (held_seconds s)) (more-amount sum s a)

pub seconds-amount : (segments : List Segment) (key : ℕ) → Amount (seconds_of segments key)
unfolding seconds_of
seconds-amount segments key = summed-amount (passing (lasts_in key) segments) plus_zero zero-amount

-- -0 or +0 to begin with is the same, once there is a segment
total-from : (segments : List Segment) → 0 < length segments → total_of segments ≡ summed_from plus_zero segments
unfolding total_of fold
total-from [] h = absurd (not-suc-le-zero h)
total-from (s ∷ segments) h = ap (λ (x : Float). summed_from x segments) (minus_zero-add binary64 (held_seconds s) (held-amount s).plus)

module _ (segments : List Segment) where
  -- the lengths of the first k segments, from +0
  abbrev pub sofar : ℕ → Float
  sofar k = summed_from plus_zero (list (segment_at segments) k)

  pub total-is : 0 < length segments → total_of segments ≡ sofar (length segments)
  total-is some = total-from segments some ∙ ap (summed_from plus_zero) (sym (list-own segments emptied))

  pub sofar-amount : (k : ℕ) → Amount (sofar k)
  sofar-amount k = summed-amount (list (segment_at segments) k) plus_zero zero-amount

  pub sofar-more : (k : ℕ) → sofar (k + 1) ≡ add binary64 (sofar k) (held_seconds (segment_at segments k))
  sofar-more k = ap (summed_from plus_zero) (list-more (segment_at segments) k) ∙ summed-more plus_zero (list (segment_at segments) k) (segment_at segments k)

  -- a segment's length is within the sum behind it
  pub part_of : (i n : ℕ) → i < n → T (le (held_seconds (segment_at segments i)) (sofar n))
  part_of i zero h = absurd (not-suc-le-zero h)
  part_of i (suc n) h =
      let next = ap sofar (sym (add-one n)) ∙ sofar-more n in
      let sum = sofar-amount n in
      let last = held-amount (segment_at segments n) in
      let s = held_seconds (segment_at segments n) in
      subst (λ (x : Float). T (le (held_seconds (segment_at segments i)) x)) (sym next)
      (and_last (λ (k : ℕ). T (le (held_seconds (segment_at segments k)) (add binary64 (sofar n) s))) n
      (λ k l. le_trans (held_seconds (segment_at segments k)) (sofar n) (add binary64 (sofar n) s) (part_of k n l) (add_right binary64 (sofar n) s sum.in_format sum.plus last.plus))
      (add_left binary64 (sofar n) s last.in_format sum.plus last.plus) i h)
