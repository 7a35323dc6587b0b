-- A card's milliseconds by key: its segments follow each other, so no key has more than the last end.
use mathlib.Core.Path.{◌≡◌, sym, ap, ◌∙◌}
use mathlib.Core.Bool.{Bool, true, false, not, ◌&&◌, cond}
use mathlib.Core.List.{List}
use Prim.Native.Nat.{ℕ, zero, suc, ◌+◌, ◌<◌, ◌≤◌}
use native.Mathlib.Numerals.{add-one}
use native.Mathlib.Omega.{arith}
use lib.Dec.{eqb, leb}
use lib.ListN.{length}
use borrow.Author.Tests.{ltb-false, leb-false, eq-eqb, ne_eqb}
use Rattle.laws.proofs.Table.{none_of}
use Rattle.card.specs.Layout.{Meaning}
use Rattle.card.specs.Rules.{card_segment, start_at, segment_tests, segment_broken, card_broken}
use Rattle.card.specs.declared.layout.Layout.{Layout}
use Rattle.card.specs.declared.layout.Segment.{Segment}
use Rattle.card.proofs.Unbroken.{segment-good, end-limited}
use Rattle.laws.specs.Sums.{sum_below}
use Rattle.laws.proofs.Sums.{sum-none, sum_more, sum-limited}
use Rattle.set_totals.specs.Summary.{segment_time, key_time}

-- what segment i adds to a key
abbrev pub time_at : List Segment → ℕ → ℕ → ℕ
time_at ss key i = cond (eqb (card_segment ss i).key key) (segment_time ss i) 0

pub time-own : (ss : List Segment) (key i : ℕ) → (card_segment ss i).key ≡ key → time_at ss key i ≡ segment_time ss i
time-own ss key i e = ap (λ (b : Bool). cond b (segment_time ss i) 0) (eq-eqb (card_segment ss i).key key e)

pub time-other : (ss : List Segment) (key i : ℕ) → ((card_segment ss i).key ≡ key → ⊥) → time_at ss key i ≡ 0
time-other ss key i e = ap (λ (b : Bool). cond b (segment_time ss i) 0) (ne_eqb (card_segment ss i).key key e)

-- no more than the segment has
time-within : (ss : List Segment) (key i : ℕ) → time_at ss key i ≤ segment_time ss i
time-within ss key i = either (eqb (card_segment ss i).key key)
  where
    either : (b : Bool) → cond b (segment_time ss i) 0 ≤ segment_time ss i
    either true = omega arith
    either false = omega arith

pub next_start : (ss : List Segment) (i : ℕ) → start_at ss (i + 1) ≡ (card_segment ss i).end
next_start ss i = ap (start_at ss) (add-one i)

module _ (l : Layout) (m : Meaning) (good : card_broken l m ≡ false) where
  abbrev ss : List Segment
  ss = m.segments

  failed : (i : ℕ) → i < length ss → (k : ℕ) → lib.ListN.get_or (segment_tests l (eqb (length ss) 1) (start_at ss i) (card_segment ss i)) k false ≡ false
  unfolding segment_broken
  failed i h = none_of (segment_tests l (eqb (length ss) 1) (start_at ss i) (card_segment ss i)) (segment-good l m good i h)

  pub key-small : (i : ℕ) → i < length ss → (card_segment ss i).key < 24
  key-small i h = omega (arith, ltb-false 23 (card_segment ss i).key (failed i h 2))

  pub in_order : (i : ℕ) → i < length ss → start_at ss i ≤ (card_segment ss i).end
  in_order zero h = omega arith
  in_order (suc i) h =
      let several : eqb (length ss) 1 ≡ false = ne_eqb (length ss) 1 (λ one. omega (arith, h, one)) in
      let after : leb (card_segment ss (suc i)).end (start_at ss (suc i)) ≡ false = rest (eqb (length ss) 1) (leb (card_segment ss (suc i)).end (start_at ss (suc i))) several (failed (suc i) h 0) in
      omega (arith, leb-false (card_segment ss (suc i)).end (start_at ss (suc i)) after)
    where
      rest : (alone late : Bool) → alone ≡ false → not alone && late ≡ false → late ≡ false
      rest true late a e = absurd (let z : ◌≡◌ {A = ℕ} 0 1 = cc in omega arith)
      rest false late a e = e

  -- up to segment i a key has at most the time until there
  pub times-so-far : (key i : ℕ) → i ≤ length ss → sum_below (time_at ss key) i ≤ start_at ss i
  times-so-far key zero h = omega (arith, sum-none (time_at ss key))
  times-so-far key (suc i) h =
      let before = times-so-far key i (omega (arith, h)) in
      let more = ap (sum_below (time_at ss key)) (sym (add-one i)) ∙ sum_more (time_at ss key) i in
      let here = time-within ss key i in
      let order = in_order i h in
      omega (arith, before, more, here, order)

  pub start-limited : (i : ℕ) → i ≤ length ss → start_at ss i ≤ l.last
  start-limited zero h = omega arith
  start-limited (suc i) h = end-limited l m good i h

  pub key-time-limited : (key : ℕ) → key_time m key ≤ l.last
  unfolding key_time
  key-time-limited key = omega (arith, times-so-far key (length ss) (omega arith), start-limited (length ss) (omega arith))

  -- a number that is no key's
  pub no-time : (key : ℕ) → 24 ≤ key → key_time m key ≡ 0
  unfolding key_time
  no-time key h =
      let low = sum-limited (time_at ss key) 0 (length ss) (λ i less. let none = time-other ss key i (λ same. omega (arith, same, key-small i less, h)) in omega (arith, none)) in
      omega (arith, low)
