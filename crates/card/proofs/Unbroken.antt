-- A card that breaks no rule: neither header nor segment does, a segment comes with a key, and no end is above its layout's last.
use mathlib.Core.Path.{◌≡◌, refl, sym, ap, ◌∙◌}
use mathlib.Core.Bool.{Bool, true, false}
use mathlib.Core.List.{List}
use Prim.Native.Nat.{ℕ, ◌≤◌, ◌<◌}
use native.Mathlib.Nat.{zero-add}
use native.Mathlib.Omega.{arith}
use lib.ListN.{length}
use lib.Dec.{eqb, ltb}
use borrow.Author.Tests.{ltb-false, eqb-false, ne_eqb}
use Rattle.laws.proofs.First.{first-none}
use Rattle.laws.proofs.Table.{none_of, left-failed, right-failed}
use Rattle.card.specs.Layout.{Meaning}
use Rattle.card.specs.Rules.{only_one, header_tests, header_broken, segment_tests, segment_broken, card_segment, start_at, broken_at, first_broken, card_broken}
use Rattle.card.specs.declared.layout.Layout.{Layout}
use Rattle.card.specs.declared.layout.Segment.{Segment}

-- neither the header nor a segment breaks a rule
module _ (l : Layout) (m : Meaning) (good : card_broken l m ≡ false) where
  abbrev ss : List Segment
  ss = m.segments

  abbrev header : Bool
  header = header_broken l m.header (length ss)

  abbrev segments : Bool
  segments = ltb (first_broken l ss) (length ss)

  pub header-good : header_broken l m.header (length ss) ≡ false
  unfolding card_broken
  header-good = left-failed header segments good

  pub segment-good : (i : ℕ) → i < length ss → broken_at l ss i ≡ false
  unfolding card_broken
  segment-good i h =
      let none : length ss ≤ first_broken l ss = ltb-false (first_broken l ss) (length ss) (right-failed header segments good) in
      ap (broken_at l ss) (sym (zero-add i)) ∙ first-none (broken_at l ss) (length ss) 0 (rw zero-add none) i h

-- with a segment it has a key
pub has_key : (l : Layout) (m : Meaning) → card_broken l m ≡ false → 0 < length m.segments → m.header.key < 24
unfolding header_broken
has_key l m good some =
    let h = m.header in
    let count = length m.segments in
    let failed = none_of (header_tests l h count) (header-good l m good) in
    let present : eqb count 0 ≡ false = ne_eqb count 0 (λ none. omega (arith, some, none)) in
    omega (arith, ltb-false 24 h.key (failed 0), eqb-false h.key 24 (not-silent (eqb h.key 24) (eqb count 0) present (failed 7)))
  where
    not-silent : (silent empty : Bool) → empty ≡ false → only_one silent empty ≡ false → silent ≡ false
    not-silent true true e o = e
    not-silent true false e o = o
    not-silent false empty e o = refl

-- no end is above its layout's last
pub end-limited : (l : Layout) (m : Meaning) → card_broken l m ≡ false → (i : ℕ) → i < length m.segments → (card_segment m.segments i).end ≤ l.last
unfolding segment_broken
end-limited l m good i h =
    let ss = m.segments in
    let s = card_segment ss i in
    ltb-false l.last s.end (none_of (segment_tests l (eqb (length ss) 1) (start_at ss i) s) (segment-good l m good i h) 1)
