-- The rows of a meaning that a card holds are written as its card: no list is longer, no start is off.
use Rattle.std.specs.Prelude.{is_some}
use mathlib.Core.Path.{◌≡◌, refl, sym, ap, ap₂, ◌∙◌}
use mathlib.Core.Bool.{Bool, true, false, not}
use mathlib.Core.List.{List}
use mathlib.Core.Logic.{inl, inr}
use Prim.Native.Nat.{ℕ, zero, suc, ◌+◌, ◌<◌, ◌≤◌}
use native.Mathlib.Nat.{zero-add}
use native.Mathlib.Omega.{arith}
use lib.ListN.{length, get_or, length-map, get_or-map}
use borrow.Author.Tests.{eq-eqb, le-ltb}
use Rattle.laws.specs.Front.{list}
use Rattle.laws.proofs.Front.{length-list, get_or-list, list_same, list-own}
use Rattle.laws.proofs.First.{first_found}
use Rattle.card.specs.Layout.{Meaning}
use Rattle.card.specs.Rules.{before, card_segment, start_at, layout_for}
use Rattle.card.specs.declared.layout.Segment.{Segment}
use Rattle.card_form.specs.Form.{card_for}
use Rattle.card_form.specs.Rows.{rows_of, row_at, card_segments_in, unequal}
use Rattle.packed_cards.specs.Packed.{packed_meaning, packed_gap_at, first_packed_gap, packed_layout, packed_unwritable}
use Rattle.packed_call.specs.PackedCards.{packed_call}
use Rattle.written.specs.Outcome.{written_as}

-- no segment: all numbers 0
abbrev none : Segment
none = record { end = 0; key = 0; confidence = 0 }

module _ (ss : List Segment) where
  abbrev ends : List ℕ
  ends = (rows_of ss).ends

  -- the rows hold the segments
  row_is : (i : ℕ) → row_at ends (rows_of ss).keys (rows_of ss).confidences i ≡ card_segment ss i
  row_is i = rw (get_or-map (λ (s : Segment). s.end) ss i none, get_or-map (λ (s : Segment). s.key) ss i none, get_or-map (λ (s : Segment). s.confidence) ss i none)

  as_many : length ends ≡ length ss
  as_many = length-map ss (λ (s : Segment). s.end)

  segments-are : card_segments_in ends (rows_of ss).keys (rows_of ss).confidences ≡ ss
  segments-are = list_same _ (card_segment ss) (length ends) (λ i h. row_is i) ∙ ap (list (card_segment ss)) as_many ∙ list-own ss _

  -- a start is the end before it
  start_is : (i : ℕ) → start_at ss i ≡ before 0 (λ (k : ℕ). get_or ends k 0) i
  start_is zero = refl
  start_is (suc i) = sym (get_or-map (λ (s : Segment). s.end) ss i none)

  no_gap : (i : ℕ) → i < length ends → packed_gap_at (rows_of ss).starts ends i ≡ false
  no_gap i h =
      let same : get_or (rows_of ss).starts i 0 ≡ before 0 (λ (k : ℕ). get_or ends k 0) i = get_or-list (start_at ss) (length ss) i 0 (rw as_many at h) ∙ start_is i in
      ap not (eq-eqb _ _ same)

  gap-behind : length ends ≤ first_packed_gap (rows_of ss).starts ends
  gap-behind = elim (first_found (packed_gap_at (rows_of ss).starts ends) (length ends) 0) [
    | inl all ↦ omega (arith, all)
    | inr found ↦ absurd (never found)
  ]
    where
      never : ((k : ℕ) × (k < length ends) × (packed_gap_at (rows_of ss).starts ends (0 + k) ≡ true)) → ⊥
      never (k, less, passes) = let z : ◌≡◌ {A = ℕ} 0 1 = cc (no_gap k less, ap (packed_gap_at (rows_of ss).starts ends) (zero-add k)) in omega arith

  equal : unequal (length (rows_of ss).starts) (length ends) (length (rows_of ss).keys) (length (rows_of ss).confidences) ≡ false
  unfolding unequal
  equal =
      let starts : length (rows_of ss).starts ≡ length ends = length-list (start_at ss) (length ss) ∙ sym as_many in
      let keys : length (rows_of ss).keys ≡ length ends = length-map ss (λ (s : Segment). s.key) ∙ sym as_many in
      let confidences : length (rows_of ss).confidences ≡ length ends = length-map ss (λ (s : Segment). s.confidence) ∙ sym as_many in
      rw (eq-eqb _ _ starts, eq-eqb _ _ keys, eq-eqb _ _ confidences)

-- the rows of a meaning that a card holds can be written, and give its card
module _ (m : Meaning) (held : is_some (layout_for m) ≡ true) where
  said : packed_meaning m.header (rows_of m.segments).ends (rows_of m.segments).keys (rows_of m.segments).confidences ≡ m
  said = ap (λ (ss : List Segment). record { header = m.header; segments = ss }) (segments-are m.segments)

  layout_is : packed_layout m.header (rows_of m.segments) ≡ layout_for m
  unfolding packed_layout
  layout_is = rw (equal m.segments, le-ltb _ _ (gap-behind m.segments)) (ap layout_for said)

  writable-rows : packed_unwritable m.header (rows_of m.segments) ≡ false
  writable-rows = ap not (ap is_some layout_is ∙ held)

  pub packed-again : (lent : List ℕ) → packed_call m.header (rows_of m.segments) lent ≡ written_as false (card_for m) lent
  packed-again lent = ap₂ (λ (b : Bool) (card : List ℕ). written_as b card lent) writable-rows (ap card_for said)
