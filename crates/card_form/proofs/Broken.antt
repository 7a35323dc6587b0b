-- Whether a card holds a header and n segments, test by test; segment i, `at i`, is read from anywhere.
use Rattle.std.specs.Prelude.{Option, Some, None}
use mathlib.Core.Path.{◌≡◌, refl, sym, ap, ◌∙◌}
use mathlib.Core.Bool.{Bool, true, false, not, ◌||◌, cond}
use mathlib.Core.List.{[], ◌∷◌}
use Prim.Native.Nat.{ℕ, ◌≤◌, ◌<◌}
use native.Mathlib.Omega.{arith}
use lib.ListN.{length}
use lib.Dec.{eqb, ltb}
use borrow.Author.Tests.{eqb-true, not-false, lt-ltb, le-ltb}
use Rattle.laws.specs.Front.{list}
use Rattle.laws.proofs.Table.{none_of, left-failed}
use Rattle.laws.proofs.Front.{length-list}
use Rattle.card.specs.Layout.{Meaning, layout_or1}
use Rattle.card.specs.Rules.{header_broken, first_broken, card_broken, layout_for}
use Rattle.card_form.specs.Form.{card_bytes, card_for}
use Rattle.card_form.specs.Rows.{unequal, layout_of_lists}
use Rattle.card.specs.declared.layout.Layout.{Layout}
use Rattle.card.specs.declared.layout.Header.{Header}
use Rattle.card.specs.declared.layout.Segment.{Segment}

-- the card of a meaning is in its layout
pub card-in : (m : Meaning) {l : Layout} → layout_for m ≡ Some l → card_bytes l m ≡ card_for m
card-in m kept = ap (λ (found : Option Layout). card_bytes (layout_or1 found) m) (sym kept)

-- ---- the rules of a layout
module _ (l : Layout) (h : Header) (at : ℕ → Segment) (count : ℕ) where
  abbrev said : Meaning
  said = record { header = h; segments = list at count }

  -- the header as the meaning has it
  of-header : {b : Bool} → header_broken l h count ≡ b → header_broken l h (length (list at count)) ≡ b
  of-header e = ap (header_broken l h) (length-list at count) ∙ e

  pub by-header : header_broken l h count ≡ true → true ≡ card_broken l said
  unfolding card_broken
  by-header e = rw (of-header e)

  -- by the first segment that was found to break a rule
  pub by-segments : {found : ℕ} → header_broken l h count ≡ false → found ≡ first_broken l (list at count) → ltb found count ≡ card_broken l said
  unfolding card_broken
  by-segments e first = rw (of-header e, first, length-list at count)

-- ---- the layout
-- what is judged: the header, the segments, of which there are as many as ends, how long the other lists are, and the first gap
pub record Asked : Type 0 where
  pub header : Header
  pub at : ℕ → Segment
  pub count : ℕ
  pub starts : ℕ
  pub keys : ℕ
  pub confidences : ℕ
  pub gap : ℕ

-- what it says
abbrev pub meant : Asked → Meaning
meant a = record { header = a.header; segments = list a.at a.count }

-- the layout that it is written in
abbrev pub layout_asked : Asked → Option Layout
layout_asked a = layout_of_lists a.starts a.count a.keys a.confidences a.gap (meant a)

-- lists of equal length, and a layout whose card it is
pub record Held (a : Asked) (l : Layout) : Type 0 where
  pub started : a.starts ≡ a.count
  pub keyed : a.keys ≡ a.count
  pub trusted : a.confidences ≡ a.count
  pub kept : layout_for (meant a) ≡ Some l

module _ (a : Asked) where
  abbrev pub Unequal : Bool → Type 0
  Unequal b = unequal a.starts a.count a.keys a.confidences ≡ b

  pub by_lengths : Unequal true → None ≡ layout_asked a
  by_lengths u = rw u

  pub by-gap : {gap : ℕ} → Unequal false → gap ≡ a.gap → gap < a.count → None ≡ layout_asked a
  by-gap u g less = rw (u, ← g, lt-ltb _ _ less)

  pub by_layout : {gap : ℕ} {found : Option Layout} → Unequal false → gap ≡ a.gap → a.count ≤ gap → found ≡ layout_for (meant a) → found ≡ layout_asked a
  by_layout u g all e = rw (u, ← g, le-ltb _ _ all) e

  pub equal-lengths : Unequal false → (a.starts ≡ a.count) × (a.keys ≡ a.count) × (a.confidences ≡ a.count)
  unfolding unequal
  equal-lengths u =
      let failed = none_of (not (eqb a.starts a.count) ∷ not (eqb a.keys a.count) ∷ not (eqb a.confidences a.count) ∷ []) u in (
        eqb-true a.starts a.count (not-false _ (failed 0)),
        eqb-true a.keys a.count (not-false _ (failed 1)),
        eqb-true a.confidences a.count (not-false _ (failed 2)),
      )

  pub held : {l : Layout} → layout_asked a ≡ Some l → Held a l
  held {l} = go apart refl
    where
      longer : Bool
      longer = unequal a.starts a.count a.keys a.confidences

      apart : Bool
      apart = longer || ltb a.gap a.count

      go : (b : Bool) → apart ≡ b → cond b None (layout_for (meant a)) ≡ Some l → Held a l
      go true t q = let z : ◌≡◌ {A = ℕ} 0 1 = cc in absurd (omega arith)
      go false t q =
          let same = equal-lengths (left-failed longer (ltb a.gap a.count) t) in
          record { started = same.0; keyed = same.1; trusted = same.2; kept = q }
