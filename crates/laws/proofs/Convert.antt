-- Conversion to a format rounds each size, which keeps the order, and turns the order of the negative round with the sign.
use mathlib.Core.Path.{◌≡◌, refl, sym, ap, ◌∙◌, subst, subst₂}
use mathlib.Core.Logic.{◌⊎◌, inl, inr}
use Prim.Native.Nat.{ℕ, ◌*◌, ◌≤◌}
use native.Mathlib.Nat.{zero-mul, mul-one}
use native.Mathlib.Omega.{arith}
use mathlib.Core.Bool.{true, false}
use lib.Dec.{T}
use lib.Ieee.{Float, nan, inf, fin, Format, up, down, is_nan, fits, le, neg, round}
use lib.Ieee.Fits.{down_pos, nan-fits, inf-fits, neg-fits}
use lib.Ieee.Positive.{num, den}
use Rattle.laws.specs.Values.{negative, clear, nonneg, plus_zero, minus_zero, Held}
use Rattle.laws.specs.Convert.{converted}
use Rattle.laws.proofs.Signs.{kind, neg-round, neg-neg, neg-clear}
use Rattle.laws.proofs.Order.{le-neg, le_trans, le_left, le_right, apart-le}
use Rattle.laws.proofs.Nonneg.{Rounds, rounds-mono, rounds-clear, both-finite, greatest, le→cross, nonneg-under}
use Rattle.laws.proofs.Held.{held-rounds, rounds-back}
use Rattle.laws.proofs.Nearest.{conversion}
use Rattle.laws.proofs.Zero.{plus_zero-held, plus_zero-least}

pub convert-fits : (f : Format) (x : Float) → T (fits f (converted f x))
unfolding converted
convert-fits f nan = nan-fits f
convert-fits f (inf s) = inf-fits f s
convert-fits f (fin s m e) = ((conversion f).rounds (fin s m e) tt).held

-- the sign is kept
pub convert-neg : (f : Format) (x : Float) → converted f (neg x) ≡ neg (converted f x)
unfolding converted neg
convert-neg f nan = refl
convert-neg f (inf s) = refl
convert-neg f (fin true m e) = sym (neg-neg (round f false (m * up e) (down e))) ∙ ap neg (neg-round f (m * up e) (down e))
convert-neg f (fin false m e) = sym (neg-round f (m * up e) (down e))

-- ---- the sign plus
pub convert-rounds : (f : Format) (x : Float) → T (nonneg x) → Rounds f (converted f x) (num x) (den x)
unfolding converted
convert-rounds f nan p = absurd p
convert-rounds f (inf s) p = absurd p
convert-rounds f (fin true m e) p = absurd p
convert-rounds f (fin false m e) p = record { is = refl; some = down_pos e }

pub convert-clear : (f : Format) (x : Float) → T (clear x) → T (clear (converted f x))
unfolding converted
convert-clear f nan p = p
convert-clear f (inf s) p = p
convert-clear f (fin s m e) p = rounds-clear (convert-rounds f (fin s m e) p)

convert-inf : (f : Format) → converted f (inf false) ≡ inf false
unfolding converted
convert-inf f = refl

clear-mono : (f : Format) (x y : Float) → T (clear x) → T (clear y) → T (le x y) → T (le (converted f x) (converted f y))
clear-mono f x y p q h = elim (both-finite x y p q h) [
  | inr e ↦ rw (e, convert-inf f) (greatest (converted f x) (convert-clear f x p))
  | inl c ↦ rounds-mono (convert-rounds f x c.0) (convert-rounds f y c.1) (le→cross x y c.0 c.1 h)
]

-- ---- two values of different signs in the other order are zeros
zero-converted : (f : Format) (x : Float) → T (clear x) → T (le x plus_zero) → converted f x ≡ plus_zero
zero-converted f x c h =
    let p = nonneg-under x plus_zero c tt h in
    rounds-back plus_zero (plus_zero-held f) (convert-rounds f x p) (mul-one (num x) ∙ none (num x) (den x) (le→cross x plus_zero p tt h))
  where
    none : (a c : ℕ) → a * 1 ≤ 0 * c → a ≡ 0 * c
    none a c h = let z = zero-mul c in omega arith

module _ (f : Format) where
  zeros-mono : (x y : Float) → T (clear x) → T (negative y) → T (le x y) → T (le (converted f x) (converted f y))
  zeros-mono x y p q h =
      let below : T (le x plus_zero) = le_trans x y plus_zero h (apart-le y plus_zero q tt) in
      let turned : T (le (neg y) minus_zero) = unfold neg in le-neg plus_zero y (le_trans plus_zero x y (plus_zero-least x p) h) in
      let y-zero : converted f (neg y) ≡ plus_zero = zero-converted f (neg y) (neg-clear y q) (le_trans (neg y) minus_zero plus_zero turned (apart-le minus_zero plus_zero tt tt)) in
      let y-is : converted f y ≡ minus_zero = sym (neg-neg (converted f y)) ∙ ap neg (sym (convert-neg f y) ∙ y-zero) ∙ unfold neg in refl in
      subst₂ (λ (a b : Float). T (le a b)) (sym (zero-converted f x p below)) (sym y-is) (unfold le in tt)

  negative-kept : (x : Float) → T (negative x) → T (negative (converted f x))
  negative-kept nan n = absurd n
  negative-kept (inf s) n = unfold converted in n
  negative-kept (fin s m e) n = subst T (sym ((conversion f).rounds (fin s m e) tt).sign) n

  pub convert_number : (x : Float) → is_nan x ≡ false → is_nan (converted f x) ≡ false
  convert_number nan n = unfold converted in n
  convert_number (inf s) n = unfold converted in n
  convert_number (fin s m e) n = ((conversion f).rounds (fin s m e) tt).number

  negative-mono : (x y : Float) → T (negative x) → T (negative y) → T (le x y) → T (le (converted f x) (converted f y))
  negative-mono x y p q h =
      subst₂ (λ (a b : Float). T (le a b)) (ap neg (convert-neg f x) ∙ neg-neg (converted f x)) (ap neg (convert-neg f y) ∙ neg-neg (converted f y))
      (le-neg (converted f (neg y)) (converted f (neg x)) (clear-mono f (neg y) (neg x) (neg-clear y q) (neg-clear x p) (le-neg x y h)))

  -- the order of all numbers is kept
  pub convert-mono : (x y : Float) → T (le x y) → T (le (converted f x) (converted f y))
  convert-mono x y h = by-kinds (kind x) (kind y)
    where
      by-kinds : (x ≡ nan) ⊎ (T (clear x) ⊎ T (negative x)) → (y ≡ nan) ⊎ (T (clear y) ⊎ T (negative y)) → T (le (converted f x) (converted f y))
      by-kinds (inl a) b = absurd (rw a at (le_left x y h))
      by-kinds (inr a) (inl b) = absurd (rw b at (le_right x y h))
      by-kinds (inr (inl a)) (inr (inl b)) = clear-mono f x y a b h
      by-kinds (inr (inl a)) (inr (inr b)) = zeros-mono x y a b h
      by-kinds (inr (inr a)) (inr (inl b)) = apart-le (converted f x) (converted f y) (negative-kept x a) (convert-clear f y b)
      by-kinds (inr (inr a)) (inr (inr b)) = negative-mono x y a b h

  -- ---- a value that the format holds
  held_kept : (x : Float) → Held f x → converted f x ≡ x
  held_kept x h = (convert-rounds f x h.at_least_zero).is ∙ sym (held-rounds f x h).is

  pub convert-keeps : (x : Float) → T (fits f x) → converted f x ≡ x
  unfolding neg
  convert-keeps nan h = unfold converted in refl
  convert-keeps (inf s) h = unfold converted in refl
  convert-keeps (fin false m e) h = held_kept (fin false m e) (record { in_format = h; at_least_zero = tt })
  convert-keeps (fin true m e) h =
      convert-neg f (fin false m e) ∙ ap neg (held_kept (fin false m e) (record { in_format = neg-fits f (fin true m e) h; at_least_zero = tt }))
