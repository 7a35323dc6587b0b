-- What is known of every known layout.
use Rattle.std.specs.Prelude.{Some, None}
use mathlib.Core.Path.{◌≡◌, refl, sym, ap, subst, ◌∙◌}
use mathlib.Core.Bool.{Bool, true, false, cond}
use mathlib.Core.List.{List, [], ◌∷◌}
use Prim.Native.Nat.{ℕ, ◌+◌, ◌^◌, ◌≤◌}
use native.Mathlib.Omega.{arith}
use lib.Dec.{eqb}
use borrow.Author.Tests.{eqb-true}
use Rattle.card.specs.Layout.{LayoutFits, layout1, layout2, layouts, most_segments, last_end, numbered_in, layout_or1}
use Rattle.card.specs.declared.layout.Layout.{Layout}

-- its widths can be put, an end has 27 bits at most, its smallest card has seven bytes, every count that fits is allowed, and no card has more segments or a later end
pub record Sound (l : Layout) : Type 0 where
  pub fits : LayoutFits l
  pub narrow : l.end ≤ 27
  pub long : 10 ≤ l.count
  pub full : 2 ^ l.count ≤ l.most + 1
  pub few : 2 ^ l.count ≤ most_segments + 1
  pub early : l.last ≤ last_end

layout1-sound : Sound layout1
layout1-sound = record {
  fits = record { number = omega arith; count = omega arith; end = omega arith; most = omega arith; last = omega arith };
  narrow = omega arith;
  long = omega arith;
  full = omega arith;
  few = omega arith;
  early = omega arith;
}

layout2-sound : Sound layout2
layout2-sound = record {
  fits = record { number = omega arith; count = omega arith; end = omega arith; most = omega arith; last = omega arith };
  narrow = omega arith;
  long = omega arith;
  full = omega arith;
  few = omega arith;
  early = omega arith;
}

-- the layout that a card names, or that stands in where it names none
pub found-sound : (number : ℕ) → Sound (layout_or1 (numbered_in layouts number))
found-sound number = either (eqb number 1) (eqb number 2)
  where
    either : (a b : Bool) → Sound (layout_or1 (cond a (Some layout1) (cond b (Some layout2) None)))
    either true b = layout1-sound
    either false true = layout2-sound
    either false false = layout1-sound

pub known-sound : {l : Layout} (number : ℕ) → numbered_in layouts number ≡ Some l → Sound l
known-sound number e = subst Sound (ap layout_or1 e) (found-sound number)

-- a layout that is found under a number has it
pub found_number : (ls : List Layout) (number : ℕ) {l : Layout} → numbered_in ls number ≡ Some l → l.number ≡ number
found_number [] number e = absurd (nothing e)
  where
    nothing : {l : Layout} → None ≡ Some l → ⊥
    nothing q = let z : ◌≡◌ {A = ℕ} 0 1 = cc in omega arith
found_number (k ∷ ks) number {l} e = either (eqb number k.number) refl e (λ q. found_number ks number q)
  where
    either : (b : Bool) → eqb number k.number ≡ b → cond b (Some k) (numbered_in ks number) ≡ Some l → (numbered_in ks number ≡ Some l → l.number ≡ number) → l.number ≡ number
    either true t q more = let same : k ≡ l = cc in ap (λ (x : Layout). x.number) (sym same) ∙ sym (eqb-true number k.number t)
    either false t q more = more q
