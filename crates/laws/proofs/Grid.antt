-- Rounding counted in units of the format's smallest value: the result is the nearest multiple of 2 ^ k units, no number of as few digits is nearer,
-- and it reaches the overflow exactly from the range's end on.
use mathlib.Core.Path.{◌≡◌, sym, ap, ◌∙◌, subst}
use mathlib.Core.Logic.{◌⊎◌, inl, inr}
use Prim.Native.Nat.{ℕ, suc, ◌+◌, ◌-◌, ◌*◌, ◌/◌, ◌%◌, ◌^◌, ◌≤◌, ◌<◌, compare}
use native.Mathlib.Nat.{le_refl, le_trans, le_of_eq, lt_irrefl, not-le_of_lt, sub-add_cancel, le_of_lt, lt_of_lt_of_le, lt_of_le_of_lt, mul_comm, mul_assoc, mul-pos, suc-mul, mul-le-mul_right, mul-lt-mul_of_pos_right, le-div_iff_mul-le, div-lt_iff_lt-mul, div-div-eq-div-mul, pow-suc, eq_of_mul-eq-mul_right}
use native.Mathlib.Omega.{arith}
use lib.Pow.{pow-add, pow_pos, pow_mono, pow-lt}
use lib.Ieee.{size}
use lib.Ieee.Digits.{size-lt, size-le, size_reaches, back}
use lib.Ieee.Fits.{kept-lt, nearest-le}
use lib.Ieee.Nearest.{nearest-ge}
use lib.Ieee.Order.{drop, kept}
use Rattle.laws.specs.Convert.{gap}
use Rattle.laws.proofs.Cases.{lt-or-ge}
use Rattle.laws.proofs.Closest.{Near, closest-near}
use Rattle.laws.proofs.Nonneg.{sub-mul}

-- ---- a multiple of u is not nearer than the closest one, and where it is as near that one is even
module _ (n u q m : ℕ) (U : 0 < u) (near : Near n u q) where
  steps : {a b : ℕ} → a < b → a * u + u ≤ b * u
  steps {a} h = le_trans (le_of_eq (sym (suc-mul a u))) (mul-le-mul_right u h)

  not-nearer : gap n (q * u) ≤ gap n (m * u)
  not-nearer = elim (lt-or-ge m q) [
    | inl l ↦ let s = steps l in omega (arith, near.lower, near.upper)
    | inr g ↦ elim (lt-or-ge q m) [
      | inl l ↦ let s = steps l in omega (arith, near.lower, near.upper)
      | inr l ↦ let e : m ≡ q = omega arith in rw e (le_refl (gap n (q * u)))
    ]
  ]

  as-near : gap n (q * u) ≡ gap n (m * u) → (m ≡ q → q % 2 ≡ 0) → q % 2 ≡ 0
  as-near h same = elim (lt-or-ge m q) [
    | inl l ↦ let s = steps l in near.lower_even (omega (arith, near.lower, near.upper))
    | inr g ↦ elim (lt-or-ge q m) [
      | inl l ↦ let s = steps l in near.upper_even (omega (arith, near.lower, near.upper))
      | inr l ↦ same (omega arith)
    ]
  ]

-- farther below n
farther : (n b d : ℕ) → d < b → b ≤ n → gap n b < gap n d
farther n b d h k = omega arith

-- ---- n / c units, of which p digits are kept and k dropped
module _ (p n c : ℕ) (P : 0 < p) (C : 0 < c) where
  abbrev k : ℕ
  k = drop p n c

  abbrev u : ℕ
  u = c * 2 ^ k

  abbrev q : ℕ
  q = kept p n c

  some : 0 < u
  some = mul-pos C (pow_pos k)

  near : Near n u q
  near = closest-near n u some

  pub kept-most : q ≤ 2 ^ p
  kept-most = le_trans (nearest-le (n / u) (compare (n % u * 2) u)) (subst (λ (x : ℕ). x < 2 ^ p) (div-div-eq-div-mul n c (2 ^ k)) (kept-lt p (n / c)))

  in-steps : (a : ℕ) → a * 2 ^ k * c ≡ a * u
  in-steps a = mul_assoc a (2 ^ k) c ∙ ap (λ (x : ℕ). a * x) (mul_comm (2 ^ k) c)

  -- where digits are dropped, those that are kept are all in use
  full : 0 < k → 2 ^ (p - 1) * u ≤ n
  full K =
      let a : 2 ^ (p - 1) * 2 ^ k ≤ n / c = le_trans (le_of_eq (sym (pow-add 2 (p - 1) k))) (size_reaches (n / c) (p - 1 + k) (last (size (n / c)) p P K)) in
      le_trans (le_of_eq (sym (in-steps (2 ^ (p - 1))))) ((le-div_iff_mul-le C).0 a)
    where
      last : (z p : ℕ) → 0 < p → 0 < z - p → p - 1 + (z - p) < z
      last z p P K = omega arith

  pub kept-least : 0 < k → 2 ^ (p - 1) ≤ q
  kept-least K = le_trans ((le-div_iff_mul-le some).1 (full K)) (nearest-ge (n / u) (compare (n % u * 2) u))

  -- m * 2 ^ j units, for an m of no more digits: a multiple of 2 ^ k units, or below all that have so many digits dropped
  placed : (m j : ℕ) → m < 2 ^ p → ((a : ℕ) × (m * 2 ^ j ≡ a * 2 ^ k)) ⊎ ((m * 2 ^ j * c < 2 ^ (p - 1) * u) × (2 ^ (p - 1) * u ≤ n))
  placed m j h = elim (lt-or-ge j k) [
    | inl l ↦
        let room : p + j ≤ p - 1 + k = omega arith in
        let under : m * 2 ^ j < 2 ^ (p - 1) * 2 ^ k =
        lt_of_lt_of_le (mul-lt-mul_of_pos_right h (pow_pos j)) (le_trans (le_of_eq (sym (pow-add 2 p j))) (le_trans (pow_mono room) (le_of_eq (pow-add 2 (p - 1) k)))) in
        inr (lt_of_lt_of_le (mul-lt-mul_of_pos_right under C) (le_of_eq (in-steps (2 ^ (p - 1)))), full (omega arith))
    | inr g ↦ inl (m * 2 ^ (j - k), sym (mul_assoc m (2 ^ (j - k)) (2 ^ k) ∙ ap (λ (x : ℕ). m * x) (sym (pow-add 2 (j - k) k) ∙ ap (λ (x : ℕ). 2 ^ x) (back j k g))))
  ]

  pub nearest-units : (m j : ℕ) → m < 2 ^ p → gap n (q * 2 ^ k * c) ≤ gap n (m * 2 ^ j * c)
  nearest-units m j h = rw (in-steps q) (elim (placed m j h) [
    | inl (a, e) ↦ rw (e, in-steps a) (not-nearer n u q a some near)
    | inr (l, g) ↦ le_trans (not-nearer n u q (2 ^ (p - 1)) some near) (le_of_lt (farther n (2 ^ (p - 1) * u) (m * 2 ^ j * c) l g))
  ])

  pub even-units : (m j : ℕ) → m < 2 ^ p → gap n (q * 2 ^ k * c) ≡ gap n (m * 2 ^ j * c) → (m * 2 ^ j ≡ q * 2 ^ k → q % 2 ≡ 0) → q % 2 ≡ 0
  even-units m j h same other = elim (placed m j h) [
    | inl (a, e) ↦ as-near n u q a some near (rw (e, in-steps a, in-steps q) at same) (λ (i : a ≡ q). other (e ∙ ap (λ (x : ℕ). x * 2 ^ k) i))
    | inr (l, g) ↦
        absurd (lt_irrefl (gap n (q * u))
        (lt_of_le_of_lt (not-nearer n u q (2 ^ (p - 1)) some near) (lt_of_lt_of_le (farther n (2 ^ (p - 1) * u) (m * 2 ^ j * c) l g) (le_of_eq (sym same ∙ ap (gap n) (in-steps q))))))
  ]

  -- ---- the range's end is half a step below 2 ^ (p + d + 1) units, d + 1 digits being dropped there
  module _ (d : ℕ) where
    half_step : k ≡ suc d → u ≡ 2 ^ d * c * 2
    half_step e = ap (λ (j : ℕ). c * 2 ^ j) e ∙ ap (λ (x : ℕ). c * x) (pow-suc 2 d) ∙ sym (mul_assoc c (2 ^ d) 2) ∙ ap (λ (x : ℕ). x * 2) (mul_comm c (2 ^ d))

    end_is : k ≡ suc d → (2 ^ (p + suc d) - 2 ^ d) * c ≡ 2 ^ p * u - 2 ^ d * c
    end_is e = sub-mul (2 ^ (p + suc d)) (2 ^ d) c ∙ ap (λ (x : ℕ). x - 2 ^ d * c) (ap (λ (x : ℕ). x * c) (pow-add 2 p (suc d) ∙ ap (λ (j : ℕ). 2 ^ p * 2 ^ j) (sym e)) ∙ in-steps (2 ^ p))

    pub below_end : n < (2 ^ (p + suc d) - 2 ^ d) * c → q * 2 ^ k < 2 ^ (p + suc d)
    below_end l = elim (lt-or-ge k (suc d)) [
      | inl s ↦ let less : p + k < p + suc d = omega arith in lt_of_le_of_lt (mul-le-mul_right (2 ^ k) kept-most) (lt_of_le_of_lt (le_of_eq (sym (pow-add 2 p k))) (pow-lt less))
      | inr g ↦
          let few : n / c < 2 ^ (p + suc d) = (div-lt_iff_lt-mul C).1 (lt_of_lt_of_le l (mul-le-mul_right c (less-than (2 ^ (p + suc d)) (2 ^ d)))) in
          let e : k ≡ suc d = at-end (size (n / c)) (size-le (n / c) (p + suc d) few) g in
          elim (lt-or-ge q (2 ^ p)) [
            | inl s ↦ lt_of_lt_of_le (mul-lt-mul_of_pos_right s (pow_pos k)) (le_of_eq (ap (λ (j : ℕ). 2 ^ p * 2 ^ j) e ∙ sym (pow-add 2 p (suc d))))
            | inr s ↦
                let m : 2 ^ p * u ≤ q * u = mul-le-mul_right u s in
                let a = half_step e in
                let b = end_is e in
                absurd (omega (arith, near.lower))
          ]
    ]
      where
        less-than : (a b : ℕ) → a - b ≤ a
        less-than a b = omega arith

        at-end : (z : ℕ) → z ≤ p + suc d → suc d ≤ z - p → z - p ≡ suc d
        at-end z h g = omega arith

    pub from_end : (2 ^ (p + suc d) - 2 ^ d) * c ≤ n → 2 ^ (p + suc d) ≤ q * 2 ^ k
    from_end g = elim (lt-or-ge (suc d) k) [
      | inl l ↦
          let room : p + suc d ≤ p - 1 + k = omega arith in
          le_trans (pow_mono room) (le_trans (le_of_eq (pow-add 2 (p - 1) k)) (mul-le-mul_right (2 ^ k) (kept-least (omega arith))))
      | inr h ↦ elim (lt-or-ge k (suc d)) [
        | inl l ↦
            let few : n < 2 ^ (p + d) * c = (div-lt_iff_lt-mul C).0 (lt_of_lt_of_le (size-lt (n / c)) (pow_mono (up_to (size (n / c)) l))) in
            let small : 2 ^ d ≤ 2 ^ (p + d) = pow_mono (more p d) in
            let twice : 2 ^ (p + suc d) ≡ 2 ^ (p + d) * 2 = pow-add 2 p (suc d) ∙ ap (λ (x : ℕ). 2 ^ p * x) (pow-suc 2 d) ∙ sym (mul_assoc (2 ^ p) (2 ^ d) 2) ∙ ap (λ (x : ℕ). x * 2) (sym (pow-add 2 p d)) in
            let less : 2 ^ (p + d) ≤ 2 ^ (p + suc d) - 2 ^ d = omega arith in
            absurd (not-le_of_lt few (le_trans (mul-le-mul_right c less) g))
        | inr s ↦
            let e : k ≡ suc d = omega arith in
            elim (lt-or-ge q (2 ^ p)) [
              | inl m ↦
                  let a = half_step e in
                  let b = end_is e in
                  let r : q * u + u ≤ 2 ^ p * u = le_trans (le_of_eq (sym (suc-mul q u))) (mul-le-mul_right u m) in
                  let tie : n * 2 ≡ q * u * 2 + u = omega (arith, near.upper) in
                  let even : q % 2 ≡ 0 = near.upper_even tie in
                  let whole : suc q * u ≡ 2 ^ p * u = suc-mul q u ∙ just (q * u) u (2 ^ p * u) (2 ^ d * c) n r a (rw b at g) tie in
                  let last : suc q ≡ 2 ^ p = eq_of_mul-eq-mul_right u some (suc q) (2 ^ p) whole in
                  absurd (odd-last q (2 ^ (p - 1)) even (last ∙ ap (λ (j : ℕ). 2 ^ j) (sym (sub-add_cancel P)) ∙ pow-add 2 (p - 1) 1))
              | inr m ↦ le_trans (le_of_eq (pow-add 2 p (suc d) ∙ ap (λ (j : ℕ). 2 ^ p * 2 ^ j) (sym e))) (mul-le-mul_right (2 ^ k) m)
            ]
      ]
    ]
      where
        up_to : (z : ℕ) → z - p < suc d → z ≤ p + d
        up_to z h = omega arith

        more : (p d : ℕ) → d ≤ p + d
        more p d = omega arith

        just : (a u b h n : ℕ) → a + u ≤ b → u ≡ h * 2 → b - h ≤ n → n * 2 ≡ a * 2 + u → a + u ≡ b
        just a u b h n r e g t = omega arith

        odd-last : (q h : ℕ) → q % 2 ≡ 0 → suc q ≡ h * 2 → ⊥
        odd-last q h e l = omega arith
