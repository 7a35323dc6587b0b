-- The pattern that `root_of_parts` puts together is the root's, and the significand of a subnormal number shifted to its place.
use Prim.Native.Nat.{ℕ, suc, ◌+◌, ◌-◌, ◌*◌, ◌/◌, ◌%◌, ◌^◌, ◌≤◌, ◌<◌}
use mathlib.Core.Logic.{inr}
use mathlib.Core.Path.{◌≡◌, sym, ap, subst, ◌∙◌}
use native.Mathlib.Nat.{le_trans, le_of_eq, lt_of_lt_of_le, lt_of_not-le, not-le_of_lt, mod-eq_of_lt, mul_assoc, mul_left_comm, mul-le-mul_right, mul-lt-mul_of_pos_right}
use native.Mathlib.Omega.{arith}
use lib.Count.{count_leading_zeros, leading_top}
use lib.Dec.{T}
use lib.Pow.{pow-add, pow_pos, pow_mono}
use lib.Ieee.{binary32, fits, of_bits}
use lib.Ieee.Bits.{of_bits-to_bits}
use lib.Ieee.Fits.{round-fits}
use Rattle.roots.specs.Root.{doubled_root, root_of_units}
use Rattle.roots.specs.inside.Steps.{Scaled, Nearest, Parts, Evened, RootOfParts}
use Rattle.roots.proofs.Rounded.{scaled_up, rounded-root}
use Rattle.laws.proofs.Patterns.{bits_of_value, pattern-at}

pub root-fits : (n : ℕ) → T (fits binary32 (root_of_units n))
unfolding root_of_units
root-fits n = round-fits binary32 _ (doubled_root n) (2 ^ 101)

-- the pattern of the root of n * 4 ^ (i + 1) units
put-together : (n r i : ℕ) → Scaled n → Nearest n r → i ≤ 139 → of_bits binary32 ((i + 50) * 2 ^ 23 + r) ≡ root_of_units (scaled_up n (2 ^ i))
put-together n r i s f h =
    let v = root_of_units (scaled_up n (2 ^ i)) in
    ap (of_bits binary32) (sym (bits_of_value binary32 v (r * 2 ^ (i + 50)) (rounded-root n r i s f h) ∙ pattern-at binary32 r (i + 50) f.most (inr f.least))) ∙ of_bits-to_bits binary32 v (root-fits (scaled_up n (2 ^ i)))

powers : (s d i : ℕ) → scaled_up (s * 2 ^ (23 + d)) (2 ^ i) ≡ s * 2 ^ (2 + (23 + d) + (i + i))
powers s d i = rw (pow-add 2 (2 + (23 + d)) (i + i), pow-add 2 2 (23 + d), pow-add 2 i i) (simp (mul_assoc, mul_left_comm) (mul_left_comm 4 s _))

-- n and i for s and e: n * 4 ^ (i + 1) is s * 2 ^ (e - 75)
pub evened-units : (s e n : ℕ) → Parts s e → Evened s e n → scaled_up n (2 ^ (e / 2 - 50)) ≡ s * 2 ^ (e - 75)
evened-units s e n p v =
    let i = e / 2 - 50 in
    let places : 2 + (23 + e % 2) + (i + i) ≡ e - 75 = omega arith in
    ap (λ (m : ℕ). scaled_up m (2 ^ i)) v.value ∙ powers s (e % 2) i ∙ ap (λ (k : ℕ). s * 2 ^ k) places

pub parts-root : (s e n r : ℕ) → Parts s e → Evened s e n → Nearest n r → RootOfParts s e (e / 2 * 2 ^ 23 + r)
parts-root s e n r p v f =
    let i = e / 2 - 50 in
    let half : i + 50 ≡ e / 2 = omega arith in
    record {
      finite = omega (arith, f.most);
      value = ap (λ (k : ℕ). of_bits binary32 (k * 2 ^ 23 + r)) (sym half) ∙ put-together n r i v.scaled f (omega arith) ∙ ap root_of_units (evened-units s e n p v);
    }

-- ---- a subnormal number's leading digit, shifted to the place 23
pub record Lifted (b l : ℕ) : Type 0 where
  pub least : 9 ≤ l
  pub most : l ≤ 31
  pub low : 2 ^ 23 ≤ b * 2 ^ (l - 8)
  pub high : b * 2 ^ (l - 8) < 2 ^ 24

pub lifted : (b : ℕ) → 0 < b → b < 2 ^ 23 → Lifted b (count_leading_zeros 32 b)
lifted b p h =
    let t = leading_top 32 b p (lt_of_lt_of_le h (pow_mono {i = 23} {j = 32} (omega arith))) in
    let j = t.0 in
    let l = count_leading_zeros 32 b in
    let sum : l + suc j ≡ 32 = t.1 in
    let under : j < 23 = lt_of_not-le (λ (g : 23 ≤ j). not-le_of_lt h (le_trans (pow_mono g) t.2)) in
    let place : j + (l - 8) ≡ 23 = omega arith in
    let place' : suc j + (l - 8) ≡ 24 = omega arith in
    record {
      least = omega arith;
      most = omega arith;
      low = le_trans (le_of_eq (ap (λ (k : ℕ). 2 ^ k) (sym place) ∙ pow-add 2 j (l - 8))) (mul-le-mul_right (2 ^ (l - 8)) t.2);
      high = lt_of_lt_of_le (mul-lt-mul_of_pos_right t.3 (pow_pos (l - 8))) (le_of_eq (sym (pow-add 2 (suc j) (l - 8)) ∙ ap (λ (k : ℕ). 2 ^ k) place'));
    }

-- the shift loses nothing
pub shifted : (b l : ℕ) → Lifted b l → (b * 2 ^ (l - 8)) % 2 ^ 32 ≡ b * 2 ^ (l - 8)
shifted b l v = mod-eq_of_lt (lt_of_lt_of_le v.high (pow_mono {i = 24} {j = 32} (omega arith)))

pub lifted-parts : (b l : ℕ) → Lifted b l → Parts ((b * 2 ^ (l - 8)) % 2 ^ 32) (126 - (l - 8))
lifted-parts b l v =
    subst (λ (s : ℕ). Parts s (126 - (l - 8))) (sym (shifted b l v))
    (record { least = v.low; below = v.high; lowest = omega (arith, v.most); highest = omega arith })
