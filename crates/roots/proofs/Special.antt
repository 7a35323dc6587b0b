-- The arguments that `square_root` answers without a root: a NaN, an infinity, a zero, and anything below zero.
use Prim.Native.Nat.{ℕ, ◌%◌, ◌^◌, ◌≤◌, ◌<◌}
use mathlib.Core.Path.{◌≡◌, refl, sym, ap, subst, ◌∙◌}
use mathlib.Core.Logic.{◌⊎◌, inl, inr}
use mathlib.Core.Bool.{Bool, true}
use native.Mathlib.Decide.{dec_le}
use native.Mathlib.Omega.{arith}
use lib.Dec.{T}
use lib.Ieee.{Float, nan, binary32, fits, is_nan, of_bits, to_bits}
use lib.Ieee.Bits.{of_bits-to_bits, to_bits-lt}
use Rattle.roots.specs.Root.{root_of}
use Rattle.laws.proofs.Signs.{nan_is}
use Rattle.laws.proofs.Table.{told}
use Rattle.roots.proofs.Values.{root-of-negative}

-- ---- a NaN
pub root-of-nan : (x : Float) {flag : Bool} → flag ≡ is_nan x → flag ≡ true → x ≡ root_of x
unfolding root_of
root-of-nan x e t = let z : x ≡ nan = nan_is x (told e t) in rw z

-- ---- patterns that are their own root
own-infinity : root_of (of_bits binary32 0x7f80_0000) ≡ of_bits binary32 0x7f80_0000
unfolding root_of of_bits
own-infinity = refl

own-zero : root_of (of_bits binary32 0) ≡ of_bits binary32 0
unfolding root_of of_bits
own-zero = refl

own-minus-zero : root_of (of_bits binary32 0x8000_0000) ≡ of_bits binary32 0x8000_0000
unfolding root_of of_bits
own-minus-zero = refl

two-zeros : (b : ℕ) → b < 2 ^ 32 → b % 0x8000_0000 ≡ 0 → (b ≡ 0) ⊎ (b ≡ 0x8000_0000)
two-zeros b l h = go (dec_le 0x8000_0000 b)
  where
    go : Dec (0x8000_0000 ≤ b) → (b ≡ 0) ⊎ (b ≡ 0x8000_0000)
    go (yes g) = inr (omega arith)
    go (no g) = inl (omega arith)

module _ (x : Float) (held : T (fits binary32 x)) where
  own : of_bits binary32 (to_bits binary32 x) ≡ x
  own = of_bits-to_bits binary32 x held

  pub pattern-below : to_bits binary32 x < 2 ^ 32
  pattern-below = to_bits-lt binary32 x held

  self : (p : ℕ) → to_bits binary32 x ≡ p → root_of (of_bits binary32 p) ≡ of_bits binary32 p → x ≡ root_of x
  self p e h =
      let is : of_bits binary32 p ≡ x = ap (of_bits binary32) (sym e) ∙ own in
      sym (subst (λ (y : Float). root_of y ≡ y) is h)

  pub root-of-infinity : to_bits binary32 x ≡ 0x7f80_0000 → x ≡ root_of x
  root-of-infinity e = self 0x7f80_0000 e own-infinity

  pub root-of-zero : to_bits binary32 x % 0x8000_0000 ≡ 0 → x ≡ root_of x
  root-of-zero h =
      elim (two-zeros (to_bits binary32 x) pattern-below h) [
        | inl e ↦ self 0 e own-zero
        | inr e ↦ self 0x8000_0000 e own-minus-zero
      ]

  pub root_below : 0x8000_0000 < to_bits binary32 x → nan ≡ root_of x
  root_below h = sym (ap root_of (sym own) ∙ root-of-negative (to_bits binary32 x) h pattern-below)

  pub root-by-pattern : (r : ℕ) → of_bits binary32 r ≡ root_of (of_bits binary32 (to_bits binary32 x)) → of_bits binary32 r ≡ root_of x
  root-by-pattern r h = h ∙ ap root_of own
