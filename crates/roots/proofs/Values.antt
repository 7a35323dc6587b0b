-- `root_of` by the size of its argument, and at the value of a bit pattern.
use Prim.Native.Nat.{ℕ, zero, suc, ◌+◌, ◌-◌, ◌*◌, ◌/◌, ◌%◌, ◌^◌, ◌≤◌, ◌<◌}
use mathlib.Core.Path.{◌≡◌, refl, sym, ap, subst, ◌∙◌}
use mathlib.Core.Bool.{Bool, true, false, cond, true≢false}
use native.Mathlib.Nat.{le_of_lt, lt_irrefl, lt_of_lt_of_le, le-add_right, zero-add, add_comm, zero-mul, mul_assoc, mul_right_comm, mul-pos, mul-div_cancel}
use native.Mathlib.Omega.{arith}
use lib.IntN.{ℤ}
use lib.Dec.{eqb}
use lib.Pow.{pow-add, pow_pos}
use lib.Ieee.{Float, nan, inf, fin, binary32, up, down, odd, of_fields, of_bits}
use lib.Ieee.Fits.{down_pos}
use lib.Ieee.Exact.{HasValue, odd_sign}
use Rattle.roots.specs.Root.{root_of, root_of_units}
use Rattle.laws.proofs.Patterns.{read-minus, read-plus, no_lead, with_lead}

-- x is v * 2 ^ -149, so x * 4 ^ 100 is v * 2 ^ 51
units_of : (m : ℕ) (e : ℤ) (v : ℕ) → m * up e * 2 ^ 149 ≡ v * down e → m * up e * 4 ^ 100 / down e ≡ v * 2 ^ 51
units_of m e v h =
    ap (λ (n : ℕ). n / down e) (sym (mul_assoc (m * up e) (2 ^ 149) (2 ^ 51)) ∙ ap (λ (n : ℕ). n * 2 ^ 51) h ∙ mul_right_comm v (down e) (2 ^ 51))
    ∙ mul-div_cancel (v * 2 ^ 51) (down_pos e)

no_value : (e : ℤ) (c v : ℕ) → zero * up e * c ≡ v * down e → 0 < v → ⊥
no_value e c v h p = lt_irrefl 0 (subst (λ (n : ℕ). 0 < n) (sym h ∙ ap (λ (n : ℕ). n * c) (zero-mul (up e)) ∙ zero-mul c) (mul-pos p (down_pos e)))

pub root-above-zero : (x : Float) (v : ℕ) → HasValue x false v (2 ^ 149) → 0 < v → root_of x ≡ root_of_units (v * 2 ^ 51)
unfolding root_of
root-above-zero nan v h p = absurd h
root-above-zero (inf s) v h p = absurd h
root-above-zero (fin s zero e) v h p = absurd (no_value e (2 ^ 149) v h.1 p)
root-above-zero (fin true (suc m) e) v h p = absurd (true≢false h.0)
root-above-zero (fin false (suc m) e) v h p = ap root_of_units (units_of (suc m) e v h.1)

pub root-below-zero : (x : Float) (v : ℕ) → HasValue x true v (2 ^ 149) → 0 < v → root_of x ≡ nan
unfolding root_of
root-below-zero nan v h p = absurd h
root-below-zero (inf s) v h p = absurd h
root-below-zero (fin s zero e) v h p = absurd (no_value e (2 ^ 149) v h.1 p)
root-below-zero (fin true (suc m) e) v h p = refl
root-below-zero (fin false (suc m) e) v h p = absurd (true≢false (sym h.0))

-- ---- patterns with the sign's bit set
fields-below-zero : (f t : ℕ) → 0 < f + t → root_of (of_fields binary32 true f t) ≡ nan
unfolding root_of of_fields
fields-below-zero zero t p = root-below-zero (of_fields binary32 true zero t) t (no_lead binary32 true t) (rw zero-add at p)
fields-below-zero (suc x) t p = go (eqb (suc x) 255) (eqb t 0)
  where
    go : (a b : Bool) → root_of (cond a (cond b (inf true) nan) (odd 24 true (2 ^ 23 + t) x 149)) ≡ nan
    go true true = refl
    go true false = refl
    go false b = root-below-zero (odd 24 true (2 ^ 23 + t) x 149) ((2 ^ 23 + t) * 2 ^ x) (odd_sign 24 true (2 ^ 23 + t) x 149) (mul-pos (lt_of_lt_of_le (pow_pos 23) (le-add_right (2 ^ 23) t)) (pow_pos x))

pub root-of-negative : (b : ℕ) → 0x8000_0000 < b → b < 2 ^ 32 → root_of (of_bits binary32 b) ≡ nan
root-of-negative b h k = ap root_of (read-minus binary32 b (le_of_lt h)) ∙ fields-below-zero (b % 0x8000_0000 / 2 ^ 23) (b % 2 ^ 23) (some b h k)
  where
    some : (n : ℕ) → 0x8000_0000 < n → n < 2 ^ 32 → 0 < n % 0x8000_0000 / 2 ^ 23 + n % 2 ^ 23
    some n l u = omega arith

-- ---- positive patterns, subnormal and normal, as `root_of_bits` takes them apart
pub root-of-subnormal : (b z : ℕ) → 0 < b → b < 2 ^ 23 → z ≤ 23 → root_of (of_bits binary32 b) ≡ root_of_units (b * 2 ^ z * 2 ^ (126 - z - 75))
root-of-subnormal b z p h l =
    let field : b / 2 ^ 23 ≡ 0 = omega arith in
    let digits : b % 2 ^ 23 ≡ b = omega arith in
    let places : z + (126 - z - 75) ≡ 51 = omega arith in
    let is : of_bits binary32 b ≡ of_fields binary32 false 0 b = rw (read-plus binary32 b (omega arith), field, digits) in
    ap root_of is
    ∙ root-above-zero (of_fields binary32 false 0 b) b (no_lead binary32 false b) p
    ∙ ap root_of_units (ap (λ (n : ℕ). b * 2 ^ n) (sym places) ∙ ap (λ (n : ℕ). b * n) (pow-add 2 z (126 - z - 75)) ∙ sym (mul_assoc b (2 ^ z) (2 ^ (126 - z - 75))))

pub root-of-normal : (b : ℕ) → 2 ^ 23 ≤ b → b < 0x7f80_0000 → root_of (of_bits binary32 b) ≡ root_of_units ((b % 2 ^ 23 + 2 ^ 23) * 2 ^ (b / 2 ^ 23 + 125 - 75))
root-of-normal b l h =
    let x = b / 2 ^ 23 - 1 in
    let t = b % 2 ^ 23 in
    let field : b / 2 ^ 23 ≡ suc x = omega arith in
    let places : b / 2 ^ 23 + 125 - 75 ≡ x + 51 = omega arith in
    let is : of_bits binary32 b ≡ of_fields binary32 false (suc x) t = read-plus binary32 b (omega arith) ∙ ap (λ (f : ℕ). of_fields binary32 false f t) field in
    ap root_of is
    ∙ root-above-zero (of_fields binary32 false (suc x) t) ((2 ^ 23 + t) * 2 ^ x) (with_lead binary32 false x t (omega arith)) (mul-pos (lt_of_lt_of_le (pow_pos 23) (le-add_right (2 ^ 23) t)) (pow_pos x))
    ∙ ap root_of_units (mul_assoc (2 ^ 23 + t) (2 ^ x) (2 ^ 51) ∙ ap (λ (n : ℕ). (2 ^ 23 + t) * n) (sym (pow-add 2 x 51) ∙ ap (λ (n : ℕ). 2 ^ n) (sym places)) ∙ ap (λ (n : ℕ). n * 2 ^ (b / 2 ^ 23 + 125 - 75)) (add_comm (2 ^ 23) t))
