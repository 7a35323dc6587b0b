-- The layout that a meaning is written in is the one that it needs: known, with its rules kept, and layout 1 wherever that will do.
use Rattle.std.specs.Prelude.{Option, Some, None, is_some}
use mathlib.Core.Path.{◌≡◌, refl, ap, subst, ◌∙◌}
use mathlib.Core.Bool.{Bool, true, false, not, cond}
use Prim.Native.Nat.{ℕ}
use native.Mathlib.Omega.{arith}
use lib.Dec.{eqb}
use borrow.Author.Tests.{not-true, not-false}
use Rattle.laws.proofs.Table.{told}
use Rattle.card.specs.Layout.{Meaning, layout1, layout2, layouts, numbered_in}
use Rattle.card.specs.Rules.{card_broken, layout_for, needless}
use Rattle.card.specs.declared.layout.Layout.{Layout}

-- a layout that is found is one
pub some-layout : (found : Option Layout) → is_some found ≡ true → (l : Layout) × (found ≡ Some l)
some-layout (Some l) e = (l, refl)
some-layout None e = let z : ◌≡◌ {A = ℕ} 0 1 = cc in absurd (omega arith)

-- what the reader asks of a layout and a meaning
pub record Needed (l : Layout) (m : Meaning) : Type 0 where
  pub known : numbered_in layouts l.number ≡ Some l
  pub good : card_broken l m ≡ false
  pub needed : needless l m ≡ false

module _ (m : Meaning) where
  -- the tests of both layouts
  abbrev first : Bool
  first = card_broken layout1 m

  abbrev second : Bool
  second = card_broken layout2 m

  -- what was found of each layout, tried in their order
  module _ {b : Bool} {k : Layout} (test : b ≡ card_broken k m) (is : k ≡ layout1) where
    of-first : b ≡ first
    of-first = test ∙ ap (λ (l : Layout). card_broken l m) is

    pub kept-first : not b ≡ true → Some k ≡ layout_for m
    unfolding layout_for
    kept-first t = ap Some is ∙ rw (told of-first (not-true b t))

    module _ (tried : not b ≡ false) {d : Bool} {l : Layout} (next : d ≡ card_broken l m) (also : l ≡ layout2) where
      of-second : d ≡ second
      of-second = next ∙ ap (λ (z : Layout). card_broken z m) also

      pub kept_second : not d ≡ true → Some l ≡ layout_for m
      unfolding layout_for
      kept_second t = ap Some also ∙ rw (told of-first (not-false b tried), told of-second (not-true d t))

      pub kept-nowhere : not d ≡ false → None ≡ layout_for m
      unfolding layout_for
      kept-nowhere t = rw (told of-first (not-false b tried), told of-second (not-false d t))

  pub chosen-needed : (l : Layout) → layout_for m ≡ Some l → Needed l m
  unfolding layout_for needless
  chosen-needed l = go first second refl refl
    where
      go : (a b : Bool) → first ≡ a → second ≡ b → cond a (cond b None (Some layout2)) (Some layout1) ≡ Some l → Needed l m
      go false b ea eb q = let same : layout1 ≡ l = cc in subst (λ (k : Layout). Needed k m) same (record { known = refl; good = ea; needed = refl })
      go true false ea eb q = let same : layout2 ≡ l = cc in subst (λ (k : Layout). Needed k m) same (record { known = refl; good = eb; needed = ap not ea })
      go true true ea eb q = let z : ◌≡◌ {A = ℕ} 0 1 = cc in absurd (omega arith)

  pub needed-chosen : (l : Layout) → Needed l m → layout_for m ≡ Some l
  unfolding layout_for needless
  needed-chosen l n = go (eqb l.number 1) (eqb l.number 2) n.known
    where
      go : (a b : Bool) → cond a (Some layout1) (cond b (Some layout2) None) ≡ Some l → cond first (cond second None (Some layout2)) (Some layout1) ≡ Some l
      go true b q = let same : layout1 ≡ l = cc in rw (ap (λ (k : Layout). card_broken k m) same ∙ n.good) (ap Some same)
      go false true q =
          let same : layout2 ≡ l = cc in
          let held : first ≡ true = not-false first (ap (λ (k : Layout). needless k m) same ∙ n.needed) in
          rw (held, ap (λ (k : Layout). card_broken k m) same ∙ n.good) (ap Some same)
      go false false q = let z : ◌≡◌ {A = ℕ} 0 1 = cc in absurd (omega arith)
