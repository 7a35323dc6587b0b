-- A float's size against a power of two, and its whole part where it is below.
use mathlib.Core.Path.{◌≡◌, refl, sym, ap, ◌∙◌, subst}
use Prim.Native.Nat.{ℕ, ◌+◌, ◌*◌, ◌/◌, ◌^◌, ◌≤◌, ◌<◌, min}
use native.Mathlib.Nat.{le_trans, le_of_eq, lt_of_lt_of_le, mul-one, one-mul, mul-le-mul_right, div-lt_iff_lt-mul, le-div_iff_mul-le}
use native.Mathlib.Omega.{arith}
use mathlib.Core.Bool.{Bool, true, false, not, true≢false}
use lib.IntN.{ℤ, pos}
use lib.Dec.{T, lt→ltb}
use lib.Pow.{pow_mono}
use lib.Ieee.{Float, nan, inf, fin, up, down, is_nan, lt, le, to_unsigned}
use lib.Ieee.Fits.{down_pos}
use Rattle.laws.specs.Values.{magnitude_of}
use Rattle.laws.proofs.Order.{not-le→lt}
use Rattle.laws.proofs.Nonneg.{le→cross, lt→cross}

-- 2^k
abbrev pub power_of_two : ℕ → Float
power_of_two k = fin false 1 (pos k)

-- a number with a size below 2^k
abbrev pub Under : ℕ → Float → Type 0
Under k nan = ⊥
Under k (inf s) = ⊥
Under k (fin s m e) = m * up e < 2 ^ k * down e

-- the whole part of the size
abbrev pub cut_of : Float → ℕ
cut_of x = to_unsigned 64 (magnitude_of x)

module _ (k : ℕ) where
  -- ---- what the test `size >= 2^k` says
  pub under : (x : Float) → is_nan x ≡ false → le (power_of_two k) (magnitude_of x) ≡ false → Under k x
  unfolding is_nan magnitude_of
  under nan n b = absurd (true≢false n)
  under (inf s) n b = let big : le (power_of_two k) (inf false) ≡ true = unfold le in refl in absurd (true≢false (sym big ∙ b))
  under (fin s m e) n b =
      let l = lt→cross (fin false m e) (power_of_two k) tt tt (not-le→lt (fin false m e) (power_of_two k) tt tt (subst (λ (c : Bool). T (not c)) (sym b) tt)) in
      subst (λ (a : ℕ). a < 2 ^ k * down e) (mul-one (m * up e)) (subst (λ (a : ℕ). m * up e * 1 < a * down e) (one-mul (2 ^ k)) l)

  pub over : (s : Bool) (m : ℕ) (e : ℤ) → le (power_of_two k) (fin false m e) ≡ true → 2 ^ k ≤ m * up e / down e
  over s m e b =
      let l = le→cross (power_of_two k) (fin false m e) tt tt (subst T (sym b) tt) in
      (le-div_iff_mul-le (down_pos e)).1 (le_trans (le_of_eq (ap (λ (a : ℕ). a * down e) (sym (one-mul (2 ^ k))))) (le_trans l (le_of_eq (mul-one (m * up e)))))

  -- ---- the cast to a whole number may be made, and cuts nothing else off
  module _ (fits : k ≤ 64) where
    pub may-cut : (x : Float) → Under k x → T (lt (fin true 1 (pos 0)) (magnitude_of x)) × T (lt (magnitude_of x) (fin false 1 (pos 64)))
    unfolding lt magnitude_of
    may-cut nan h = absurd h
    may-cut (inf s) h = absurd h
    may-cut (fin s m e) h = (
      lt→ltb 0 (1 * 1 * down e + m * up e * 1) (some (down e) (m * up e) (down_pos e)),
      lt→ltb (m * up e * 1) (1 * 2 ^ 64 * down e) (far (down e) (m * up e) (lt_of_lt_of_le h (mul-le-mul_right (down e) (pow_mono fits)))),
    )
      where
        some : (d n : ℕ) → 0 < d → 0 < 1 * 1 * d + n * 1
        some d n h = omega arith

        far : (d n : ℕ) → n < 18446744073709551616 * d → n * 1 < 18446744073709551616 * d
        far d n h = omega arith

    pub cut-is : (s : Bool) (m : ℕ) (e : ℤ) → Under k (fin s m e) → cut_of (fin s m e) ≡ m * up e / down e
    unfolding to_unsigned magnitude_of
    cut-is s m e h = uncapped (m * up e / down e) (lt_of_lt_of_le ((div-lt_iff_lt-mul (down_pos e)).1 h) (pow_mono fits))
      where
        uncapped : (q : ℕ) → q < 18446744073709551616 → min q 18446744073709551615 ≡ q
        uncapped q h = omega arith

    pub cut_small : (x : Float) → Under k x → cut_of x < 2 ^ k
    cut_small nan h = absurd h
    cut_small (inf s) h = absurd h
    cut_small (fin s m e) h = subst (λ (q : ℕ). q < 2 ^ k) (sym (cut-is s m e h)) ((div-lt_iff_lt-mul (down_pos e)).1 h)
