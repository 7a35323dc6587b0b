-- A card's milliseconds added segment by segment: after i of them each key has what those give it.
use mathlib.Core.Path.{◌≡◌, refl, sym, ap, ◌∙◌}
use mathlib.Core.Bool.{Bool, false, cond}
use mathlib.Core.List.{List}
use Prim.Native.Nat.{ℕ, ◌+◌, ◌-◌, ◌^◌, ◌<◌, ◌≤◌}
use native.Mathlib.Nat.{add-zero}
use native.Mathlib.Omega.{arith}
use lib.Dec.{eqb}
use lib.ListN.{length, get_or, set, length-set}
use lib.Seq.{get_or-set_other}
use borrow.Author.Tests.{ne_eqb}
use Rattle.laws.proofs.Front.{list_set}
use Rattle.card.specs.Layout.{Meaning}
use Rattle.card.specs.Rules.{card_segment, start_at, card_broken}
use Rattle.card.specs.declared.layout.Layout.{Layout}
use Rattle.card.specs.declared.layout.Segment.{Segment}
use Rattle.card.proofs.Known.{Sound}
use Rattle.card.proofs.Unbroken.{end-limited}
use Rattle.laws.specs.Sums.{sum_below}
use Rattle.laws.proofs.Sums.{sum-none, sum_more}
use Rattle.set_totals.specs.Summary.{key_time, keyless_of}
use Rattle.set_totals.specs.inside.Numbers.{summary_numbers, card_number, raised, more, CanAdd}
use Rattle.set_totals.proofs.Times.{time_at, time-own, time-other, next_start, key-small, no-time, in_order, times-so-far, start-limited}
use Rattle.set_totals.proofs.Numbers.{more-none, more-at, more-long}

-- what the first i segments give a key
abbrev so_far : Meaning → ℕ → ℕ → ℕ
so_far m i key = sum_below (time_at m.segments key) i

-- i segments are added, and the last of them ends at `previous`
pub record Added (m : Meaning) (before now : List ℕ) (previous i : ℕ) : Type 0 where
  pub here : now ≡ more (so_far m i) before
  pub start : previous ≡ start_at m.segments i
  pub inside : i ≤ length m.segments

pub added-start : (m : Meaning) (numbers : List ℕ) → CanAdd numbers → Added m numbers numbers 0 0
added-start m numbers can =
    record {
      here = sym (more-none (so_far m 0) numbers can.size (λ key h. sum-none (time_at m.segments key)));
      start = refl;
      inside = omega arith;
    }

pub added-end : {m : Meaning} {before now : List ℕ} {previous i : ℕ} → Added m before now previous i → length m.segments ≤ i → now ≡ more (key_time m) before
unfolding key_time
added-end {m} {before} {i = i} a h = let all : i ≡ length m.segments = omega (arith, h, a.inside) in a.here ∙ ap (λ (n : ℕ). more (so_far m n) before) all

-- a turn
module _ (l : Layout) (m : Meaning) (sound : Sound l) (good : card_broken l m ≡ false) {before now : List ℕ} {previous i : ℕ} (can : CanAdd before) (a : Added m before now previous i) (less : i < length m.segments) {s : Segment} (e : s ≡ card_segment m.segments i) where
  abbrev ss : List Segment
  ss = m.segments

  pub key-inside : s.key < 24
  key-inside = omega (arith, key-small l m good i less, ap (λ (t : Segment). t.key) e)

  pub long : length now ≡ summary_numbers
  long = ap length a.here ∙ more-long (so_far m i) before

  pub no-later : previous ≤ s.end
  no-later = omega (arith, a.start, in_order l m good i less, ap (λ (t : Segment). t.end) e)

  -- what stands at the segment's key
  pub key_has : get_or now s.key 0 ≡ get_or before s.key 0 + so_far m i s.key
  key_has = ap (λ (xs : List ℕ). get_or xs s.key 0) a.here ∙ more-at (so_far m i) before s.key (omega (arith, key-inside))

  pub stays-small : get_or now s.key 0 + (s.end - previous) < 2 ^ 64
  stays-small =
      let small = can.small s.key in
      let spent = times-so-far l m good s.key i a.inside in
      let early = start-limited l m good i a.inside in
      let last = end-limited l m good i less in
      omega (arith, key_has, small, spent, early, last, sound.early, ap (λ (t : Segment). t.end) e)

  pub added_more : Added m before (raised s.key (s.end - previous) now) s.end (i + 1)
  unfolding more
  added_more =
      let key-is : (card_segment ss i).key ≡ s.key = ap (λ (t : Segment). t.key) (sym e) in
      let end_is : (card_segment ss i).end ≡ s.end = ap (λ (t : Segment). t.end) (sym e) in
      let one = sum_more (time_at ss s.key) i in
      let own = time-own ss s.key i key-is in
      record {
        here =
            ap (λ (xs : List ℕ). set xs s.key (get_or now s.key 0 + (s.end - previous))) a.here
            ∙ list_set (λ (k : ℕ). get_or before k 0 + so_far m i k) (λ (k : ℕ). get_or before k 0 + so_far m (i + 1) k) summary_numbers s.key _ (omega (arith, key-inside))
            (omega (arith, key_has, one, own, end_is, a.start))
            (λ k other. let next = sum_more (time_at ss k) i in let none = time-other ss k i (λ same. other (sym same ∙ key-is)) in omega (arith, next, none));
        start = sym (next_start ss i ∙ end_is);
        inside = omega (arith, less);
      }

-- ---- the two counts behind the totals
module _ (l : Layout) (m : Meaning) (sound : Sound l) (good : card_broken l m ≡ false) (before : List ℕ) (can : CanAdd before) where
  -- numbers with the times and the first of the two
  abbrev timed : List ℕ
  timed = more (key_time m) before

  abbrev first_counted : List ℕ
  first_counted = raised 24 1 timed

  timed-at : (k : ℕ) → 24 ≤ k → k < summary_numbers → get_or timed k 0 ≡ get_or before k 0
  timed-at k high inside = more-at (key_time m) before k inside ∙ ap (λ (n : ℕ). get_or before k 0 + n) (no-time l m good k high) ∙ add-zero (get_or before k 0)

  second_at : get_or first_counted 25 0 ≡ get_or before 25 0
  second_at = get_or-set_other timed 24 25 (get_or timed 24 0 + 1) 0 (λ e. omega (arith, e)) ∙ timed-at 25 (omega arith) (omega arith)

  pub first-long : length first_counted ≡ summary_numbers
  first-long = length-set timed 24 (get_or timed 24 0 + 1) ∙ more-long (key_time m) before

  pub first_small : get_or timed 24 0 + 1 < 2 ^ 64
  first_small = omega (arith, timed-at 24 (omega arith) (omega arith), can.small 24)

  pub second-small : (n : ℕ) → n ≤ 1 → get_or first_counted 25 0 + n < 2 ^ 64
  second-small n few = omega (arith, second_at, can.small 25, few)

  pub all-added : raised 25 (keyless_of m.header) first_counted ≡ more (card_number m) before
  unfolding more card_number
  all-added =
      let one = timed-at 24 (omega arith) (omega arith) in
      ap (λ (xs : List ℕ). set xs 25 (get_or first_counted 25 0 + keyless_of m.header))
      (list_set (λ (k : ℕ). get_or before k 0 + key_time m k) (λ (k : ℕ). get_or before k 0 + cond (eqb k 24) 1 (key_time m k)) summary_numbers 24 (get_or timed 24 0 + 1) (omega arith)
      (omega (arith, one))
      (λ k other. ap (λ (b : Bool). get_or before k 0 + cond b 1 (key_time m k)) (sym (ne_eqb k 24 other))))
      ∙ list_set (λ (k : ℕ). get_or before k 0 + cond (eqb k 24) 1 (key_time m k)) (λ (k : ℕ). get_or before k 0 + card_number m k) summary_numbers 25 (get_or first_counted 25 0 + keyless_of m.header) (omega arith)
      (ap (λ (n : ℕ). n + keyless_of m.header) second_at)
      (λ k other. ap (λ (b : Bool). get_or before k 0 + cond (eqb k 24) 1 (cond b (keyless_of m.header) (key_time m k))) (sym (ne_eqb k 25 other)))
