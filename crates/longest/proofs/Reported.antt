-- The longest segment so far, turn by turn: none before is longer, and each behind it is shorter.
use mathlib.Core.Path.{◌≡◌, refl, sym, ap, ◌∙◌, subst}
use mathlib.Core.Bool.{Bool, true, false, cond}
use mathlib.Core.List.{List}
use Prim.Native.Nat.{ℕ, zero, suc, ◌<◌}
use native.Mathlib.Nat.{not-suc-le-zero, le_refl}
use native.Mathlib.Omega.{arith}
use lib.ListN.{length}
use lib.Dec.{T}
use borrow.Author.Tests.{lt-ltb}
use Rattle.laws.proofs.Turns.{turns-keep}
use Rattle.laws.proofs.Every.{and_last}
use Rattle.laws.specs.Turns.{turns}
use lib.Ieee.{Float}
use Rattle.laws.specs.Order.{total_order}
use Rattle.laws.proofs.Cases.{by-test}
use Rattle.laws.proofs.Leader.{ranks-itself, ranks-other}
use Rattle.timeline.specs.Segments.{seconds, segment_at}
use Rattle.timeline.specs.declared.segment.Segment.{Segment}
use Rattle.longest.specs.Longest.{longer, longest_turn, longest_of, reported_of, LongestReported}
use Rattle.longest.proofs.Lengths.{InFormat, order-ranks, seconds-fits}

module _ (segments : List Segment) where
  abbrev length_at : ℕ → Float
  length_at i = seconds (segment_at segments i)

  length_at-fits : (i : ℕ) → InFormat (length_at i)
  length_at-fits i = seconds-fits (segment_at segments i)

  -- the best of the first n is segment i
  record Best (n : ℕ) (best : Segment) : Type 0 where
    i : ℕ
    is : best ≡ segment_at segments i
    there : i < n
    most : (j : ℕ) → j < n → T (total_order (length_at j) (length_at i))
    last : (j : ℕ) → i < j → j < n → total_order (length_at i) (length_at j) ≡ false

  -- segment n is the best of n + 1, if it is not before any of the others
  newest : (n : ℕ) → ((j : ℕ) → j < n → T (total_order (length_at j) (length_at n))) → Best (suc n) (segment_at segments n)
  newest n under =
      record {
        i = n;
        is = refl;
        there = le_refl (suc n);
        most = and_last (λ (j : ℕ). T (total_order (length_at j) (length_at n))) n under (ranks-itself total_order InFormat order-ranks (length_at n) (length_at-fits n));
        last = λ j above less. absurd (omega (arith, above, less));
      }

  next : (n : ℕ) (best : Segment) → Best n best → Best (suc n) (longer best (segment_at segments n))
  unfolding longer
  next n best b = decided (total_order (seconds best) (length_at n)) refl
    where
      same : total_order (seconds best) (length_at n) ≡ total_order (length_at b.i) (length_at n)
      same = ap (λ (s : Segment). total_order (seconds s) (length_at n)) b.is

      decided : (t : Bool) → total_order (seconds best) (length_at n) ≡ t → Best (suc n) (cond t (segment_at segments n) best)
      decided true e =
          newest n (λ j less. order-ranks.transitive (length_at j) (length_at b.i) (length_at n) (length_at-fits j) (length_at-fits b.i) (length_at-fits n) (b.most j less) (subst T (sym (sym same ∙ e)) tt))
      decided false e =
          let shorter = sym same ∙ e in
          record {
            i = b.i;
            is = b.is;
            there = omega (arith, b.there);
            most = and_last (λ (j : ℕ). T (total_order (length_at j) (length_at b.i))) n b.most (ranks-other total_order InFormat order-ranks (length_at b.i) (length_at n) (length_at-fits b.i) (length_at-fits n) shorter);
            last = λ j above less. and_last (λ (k : ℕ). b.i < k → total_order (length_at b.i) (length_at k) ≡ false) n (λ k l behind. b.last k behind l) (λ _. shorter) j less above;
          }

  -- before the first turn the best is segment 0
  abbrev After : ℕ → Segment → Type 0
  After zero best = best ≡ segment_at segments 0
  After (suc n) best = Best (suc n) best

  -- it is compared with itself
  turn : (n : ℕ) (best : Segment) → After n best → After (suc n) (longest_turn segments n best)
  unfolding longer
  turn zero best e =
      by-test (Best 1) (total_order (seconds best) (length_at 0)) (λ _. only) (λ _. subst (Best 1) (sym e) only)
    where
      only : Best 1 (segment_at segments 0)
      only = newest 0 (λ j less. absurd (not-suc-le-zero less))
  turn (suc n) best b = next (suc n) best b

  best_of : (n : ℕ) → 0 < n → Best n (turns (longest_turn segments) n 0 (segment_at segments 0))
  best_of zero h = absurd (not-suc-le-zero h)
  best_of (suc n) h = turns-keep After (longest_turn segments) (segment_at segments 0) refl turn (suc n)

pub longest-reported : LongestReported
unfolding reported_of longest_of
longest-reported classified segments several =
    let b = best_of segments (length segments) (omega (arith, several)) in (
      b.i,
      record { there = b.there; most = b.most; last = b.last },
      ap (λ (t : Bool). cond t (longest_of segments).key classified) (lt-ltb 1 (length segments) several) ∙ ap (λ (s : Segment). s.key) b.is,
    )
