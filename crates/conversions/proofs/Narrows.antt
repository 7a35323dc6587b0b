-- A binary64 value rounded to binary32, from its pattern: the digits are divided by a power of two, to the nearest, and are the result's digits.
use Rattle.std.proofs.Common.{◌≡◌, ℕ, zero, suc, ◌+◌, ◌-◌, ◌*◌, ◌/◌, ◌%◌, ◌^◌, ◌<◌, ◌≤◌, Bool, true, false, not, T, sym, refl, ap, ◌∙◌, subst, inl, inr, true≢false, le_trans, le_of_eq, lt_of_lt_of_le, lt_of_le_of_lt, mul-le-mul_right, mul_assoc, div-lt_iff_lt-mul, mul-le-mul, eq-or-lt_of_le, mul-pos, le-div_iff_mul-le, zero-add, mul-one, not-le_of_lt, le_of_mul-le-mul_right, arith, lit<, pow_pos, pow_mono, pow-add, shl_lt, shr_lt}
use Prim.Native.Nat.{compare}
use lib.Ieee.{Float, nan, inf, fin, binary32, binary64, up, down, size, units, is_nan, nan_bits, neg, of_fields, of_bits, to_bits}
use lib.Ieee.Bits.{of_bits-to_bits, to_bits-lt, nan_bits_is}
use lib.Ieee.Digits.{size-le}
use lib.Ieee.Fits.{nearest-le, round_is, down_pos}
use lib.Ieee.Exact.{HasValue}
use lib.Ieee.Nearest.{closest, closest_same, nearest-ge}
use lib.Ieee.Scale.{round_same}
use Rattle.laws.specs.Values.{negative, magnitude_of}
use Rattle.laws.specs.Convert.{converted}
use Rattle.laws.proofs.Cases.{lt-or-ge}
use Rattle.laws.proofs.Signs.{nan_is, neg-neg, magnitude-of-negative}
use Rattle.laws.proofs.Patterns.{size_exact, bits-of-units, bits-of-overflow, read-plus, no_lead, with_lead}
use Rattle.laws.proofs.Convert.{convert-fits, convert-neg, convert_number}
use Rattle.laws.proofs.Table.{told}
use Rattle.laws.proofs.Closest.{closest-none}

-- ---- what `round` makes of q * 2^x * 2^-1074, of which it drops k digits
scaled : (q x k sh : ℕ) → sh + x ≡ 925 + k → q * 2 ^ x * 2 ^ 149 * 2 ^ sh ≡ q * (2 ^ 1074 * 2 ^ k)
scaled q x k sh e =
    ap (λ (n : ℕ). n * 2 ^ sh) (mul_assoc q (2 ^ x) (2 ^ 149) ∙ ap (λ (n : ℕ). q * n) (sym (pow-add 2 x 149)))
    ∙ mul_assoc q (2 ^ (x + 149)) (2 ^ sh)
    ∙ ap (λ (n : ℕ). q * n) (sym (pow-add 2 (x + 149) sh) ∙ ap (λ (n : ℕ). 2 ^ n) (same x k sh e) ∙ pow-add 2 1074 k)
  where
    same : (x k sh : ℕ) → sh + x ≡ 925 + k → x + 149 + sh ≡ 1074 + k
    same x k sh e = omega arith

rounded : (v : Float) (q x k sh : ℕ) → HasValue v false (q * 2 ^ x) (2 ^ 1074) → size (q * 2 ^ x * 2 ^ 149 / 2 ^ 1074) - 24 ≡ k → sh + x ≡ 925 + k
    → converted binary32 v ≡ units binary32 false (closest q (2 ^ sh)) k
unfolding converted
rounded nan q x k sh v z e = absurd v
rounded (inf s) q x k sh v z e = absurd v
rounded (fin true m d) q x k sh v z e = absurd (true≢false v.0)
rounded (fin false m d) q x k sh v z e =
    round_same binary32 false (m * up d) (down d) (q * 2 ^ x) (2 ^ 1074) (down_pos d) (pow_pos 1074) v.1
    ∙ round_is binary32 false (q * 2 ^ x) (2 ^ 1074)
    ∙ ap (λ (j : ℕ). units binary32 false (closest (q * 2 ^ x * 2 ^ 149) (2 ^ 1074 * 2 ^ j)) j) z
    ∙ ap (λ (w : ℕ). units binary32 false w k) (closest_same (q * 2 ^ x * 2 ^ 149) (2 ^ 1074 * 2 ^ k) q (2 ^ sh) (mul-pos (pow_pos 1074) (pow_pos k)) (pow_pos sh) (scaled q x k sh e))

-- below 2^-126 nothing is dropped
few-digits : (q x : ℕ) → q < 2 ^ 53 → x ≤ 895 → size (q * 2 ^ x * 2 ^ 149 / 2 ^ 1074) - 24 ≡ 0
few-digits q x h l =
    none (size (q * 2 ^ x * 2 ^ 149 / 2 ^ 1074))
    (size-le (q * 2 ^ x * 2 ^ 149 / 2 ^ 1074) 23
    ((div-lt_iff_lt-mul (pow_pos 1074)).1 (lt_of_lt_of_le (shl_lt (53 + x) 149 (shl_lt 53 x h)) (le_trans (pow_mono (room x l)) (le_of_eq (pow-add 2 23 1074))))))
  where
    none : (z : ℕ) → z ≤ 23 → z - 24 ≡ 0
    none z h = omega arith

    room : (x : ℕ) → x ≤ 895 → 53 + x + 149 ≤ 23 + 1074
    room x l = omega arith

-- from 2^-126 on 24 digits are kept
all_digits : (q k : ℕ) → 2 ^ 52 ≤ q → q < 2 ^ 53 → size (q * 2 ^ (896 + k) * 2 ^ 149 / 2 ^ 1074) - 24 ≡ k
all_digits q k lo hi =
    let x = 896 + k in
    let n = q * 2 ^ x * 2 ^ 149 in
    let lower : 2 ^ (23 + k) ≤ n / 2 ^ 1074 =
    (le-div_iff_mul-le (pow_pos 1074)).1
    (le_trans (le_of_eq (sym (pow-add 2 (23 + k) 1074) ∙ ap (λ (j : ℕ). 2 ^ j) (down_to k) ∙ pow-add 2 (52 + x) 149 ∙ ap (λ (j : ℕ). j * 2 ^ 149) (pow-add 2 52 x)))
    (mul-le-mul_right (2 ^ 149) (mul-le-mul_right (2 ^ x) lo))) in
    let upper : n / 2 ^ 1074 < 2 ^ (24 + k) =
    (div-lt_iff_lt-mul (pow_pos 1074)).1 (lt_of_lt_of_le (shl_lt (53 + x) 149 (shl_lt 53 x hi)) (le_of_eq (ap (λ (j : ℕ). 2 ^ j) (up_to k) ∙ pow-add 2 (24 + k) 1074))) in
    drop k (size (n / 2 ^ 1074)) (size_exact (23 + k) (24 + k) (n / 2 ^ 1074) (omega arith) lower upper)
  where
    down_to : (k : ℕ) → 23 + k + 1074 ≡ 52 + (896 + k) + 149
    down_to k = omega arith

    up_to : (k : ℕ) → 53 + (896 + k) + 149 ≡ 24 + k + 1074
    up_to k = omega arith

    drop : (k z : ℕ) → z ≡ 24 + k → z - 24 ≡ k
    drop k z e = omega arith

-- ---- how large the quotient is
pub quotient_le : (q c sh : ℕ) → q < 2 ^ (c + sh) → closest q (2 ^ sh) ≤ 2 ^ c
quotient_le q c sh h = le_trans (nearest-le (q / 2 ^ sh) (compare (q % 2 ^ sh * 2) (2 ^ sh))) (shr_lt c sh h)

quotient-ge : (q c sh : ℕ) → 2 ^ c * 2 ^ sh ≤ q → 2 ^ c ≤ closest q (2 ^ sh)
quotient-ge q c sh h = le_trans ((le-div_iff_mul-le (pow_pos sh)).1 h) (nearest-ge (q / 2 ^ sh) (compare (q % 2 ^ sh * 2) (2 ^ sh)))

-- 2^277 grains, the infinity's place, are reached at the highest k and a carry alone
at_top : (w k : ℕ) → w ≤ 2 ^ 24 → k ≤ 253 → 2 ^ 277 ≤ w * 2 ^ k → 2139095040 ≡ k * 2 ^ 23 + w
at_top w k h l g = elim (eq-or-lt_of_le l) [
  | inl e ↦
      let r : 2 ^ 24 ≤ w = le_of_mul-le-mul_right {m = 2 ^ 24} {n = w} {k = 2 ^ 253} (subst (λ (j : ℕ). 2 ^ 277 ≤ w * 2 ^ j) e g) (pow_pos 253) in
      omega arith
  | inr u ↦ absurd (not-le_of_lt (lt_of_le_of_lt (mul-le-mul h (pow_mono {i = k} {j = 252} (omega arith))) (lit< tt)) g)
]

-- ---- the pattern of the result, in four ranges of a value q * 2^x * 2^-1074
module _ (v : Float) (q : ℕ) (hi : q < 2 ^ 53) where
  low_bits : (x : ℕ) → HasValue v false (q * 2 ^ x) (2 ^ 1074) → x ≤ 895 → to_bits binary32 (converted binary32 v) ≡ closest q (2 ^ (925 - x))
  low_bits x val l =
      let sh = 925 - x in
      let w = closest q (2 ^ sh) in
      let w_le : w ≤ 2 ^ 24 = quotient_le q 24 sh (lt_of_lt_of_le hi (pow_mono {i = 53} {j = 24 + sh} (omega arith))) in
      ap (to_bits binary32) (rounded v q x 0 sh val (few-digits q x hi l) (omega arith))
      ∙ bits-of-units binary32 w 0 w_le (inl refl) (lt_of_le_of_lt (le_of_eq (mul-one w)) (lt_of_le_of_lt w_le (lit< tt)))
      ∙ zero-add w

  tiny-bits : (x : ℕ) → HasValue v false (q * 2 ^ x) (2 ^ 1074) → x ≤ 871 → to_bits binary32 (converted binary32 v) ≡ 0
  tiny-bits x val l = low_bits x val (omega arith) ∙ closest-none q (2 ^ (925 - x)) (lt_of_lt_of_le (shl_lt 53 1 hi) (pow_mono {i = 54} {j = 925 - x} (omega arith)))

  module _ (lo : 2 ^ 52 ≤ q) where
    keeps : 2 ^ 23 ≤ closest q (2 ^ 29)
    keeps = quotient-ge q 23 29 lo

    middle-bits : (k : ℕ) → HasValue v false (q * 2 ^ (896 + k)) (2 ^ 1074) → k ≤ 253 → to_bits binary32 (converted binary32 v) ≡ k * 2 ^ 23 + closest q (2 ^ 29)
    middle-bits k val l =
        let w = closest q (2 ^ 29) in
        let w_le : w ≤ 2 ^ 24 = quotient_le q 24 29 hi in
        ap (to_bits binary32) (rounded v q (896 + k) k 29 val (all_digits q k lo hi) (omega arith))
        ∙ elim (lt-or-ge (w * 2 ^ k) (2 ^ 277)) [ inl u ↦ bits-of-units binary32 w k w_le (inr keeps) u | inr g ↦ bits-of-overflow binary32 w k g ∙ at_top w k w_le l g ]

    high_bits : (k : ℕ) → HasValue v false (q * 2 ^ (896 + k)) (2 ^ 1074) → 254 ≤ k → to_bits binary32 (converted binary32 v) ≡ 2139095040
    high_bits k val l =
        ap (to_bits binary32) (rounded v q (896 + k) k 29 val (all_digits q k lo hi) (omega arith))
        ∙ bits-of-overflow binary32 (closest q (2 ^ 29)) k (mul-le-mul keeps (pow_mono l))

-- ---- the pattern of the result, by the pattern of the operand
-- the digits of a normal value, with the leading one
abbrev pub digits : ℕ → ℕ
digits b = 2 ^ 52 + b % 2 ^ 52

-- what the contract of `narrow_pattern` says
abbrev Narrowed : ℕ → ℕ → Type 0
Narrowed b r = to_bits binary32 (converted binary32 (of_bits binary64 b)) ≡ r

infinity-narrowed : to_bits binary32 (converted binary32 (of_fields binary64 false 2047 0)) ≡ 2139095040
unfolding converted to_bits of_fields
infinity-narrowed = refl

module _ (b : ℕ) (h : b ≤ 0x7ff0_0000_0000_0000) where
  fields-of : of_bits binary64 b ≡ of_fields binary64 false (b / 2 ^ 52) (b % 2 ^ 52)
  fields-of = read-plus binary64 b (omega arith)

  normal-value : (x : ℕ) → b / 2 ^ 52 ≡ suc x → suc x < 2047 → HasValue (of_bits binary64 b) false (digits b * 2 ^ x) (2 ^ 1074)
  normal-value x e l =
      subst (λ (v : Float). HasValue v false (digits b * 2 ^ x) (2 ^ 1074)) (sym (fields-of ∙ ap (λ (n : ℕ). of_fields binary64 false n (b % 2 ^ 52)) e)) (with_lead binary64 false x (b % 2 ^ 52) l)

  pub digits_lt : digits b < 2 ^ 53
  digits_lt = omega arith

  digits-ge : 2 ^ 52 ≤ digits b
  digits-ge = omega arith

  pub narrow-tiny : b / 2 ^ 52 < 873 → Narrowed b 0
  narrow-tiny l = go (b / 2 ^ 52) refl
    where
      go : (n : ℕ) → b / 2 ^ 52 ≡ n → Narrowed b 0
      go zero e =
          let t = b % 2 ^ 52 in
          ap (λ (v : Float). to_bits binary32 (converted binary32 v)) (fields-of ∙ ap (λ (n : ℕ). of_fields binary64 false n t) e)
          ∙ tiny-bits (of_fields binary64 false 0 t) t (omega arith) 0 (subst (λ (n : ℕ). HasValue (of_fields binary64 false 0 t) false n (2 ^ 1074)) (sym (mul-one t)) (no_lead binary64 false t)) (omega arith)
      go (suc x) e = tiny-bits (of_bits binary64 b) (digits b) digits_lt x (normal-value x e (omega arith)) (omega arith)

  pub narrow-low : 873 ≤ b / 2 ^ 52 → b / 2 ^ 52 < 897 → Narrowed b (closest (digits b) (2 ^ (926 - b / 2 ^ 52)))
  narrow-low g l =
      let x = b / 2 ^ 52 - 1 in
      low_bits (of_bits binary64 b) (digits b) digits_lt x (normal-value x (omega arith) (omega arith)) (omega arith)
      ∙ ap (λ (n : ℕ). closest (digits b) (2 ^ n)) (omega arith)

  pub narrow-middle : 897 ≤ b / 2 ^ 52 → b / 2 ^ 52 < 1151 → Narrowed b ((b / 2 ^ 52 - 897) * 2 ^ 23 + closest (digits b) (2 ^ 29))
  narrow-middle g l =
      let k = b / 2 ^ 52 - 897 in
      middle-bits (of_bits binary64 b) (digits b) digits_lt digits-ge k (normal-value (896 + k) (omega arith) (omega arith)) (omega arith)

  pub narrow_high : 1151 ≤ b / 2 ^ 52 → Narrowed b 2139095040
  narrow_high g = elim (lt-or-ge (b / 2 ^ 52) 2047) [
    | inl l ↦
        let k = b / 2 ^ 52 - 897 in
        high_bits (of_bits binary64 b) (digits b) digits_lt digits-ge k (normal-value (896 + k) (omega arith) (omega arith)) (omega arith)
    | inr m ↦
        ap (λ (v : Float). to_bits binary32 (converted binary32 v)) (fields-of ∙ ap (λ (n : ℕ). of_fields binary64 false n (b % 2 ^ 52)) (omega arith) ∙ ap (λ (n : ℕ). of_fields binary64 false 2047 n) (omega arith))
        ∙ infinity-narrowed
  ]

-- ---- from the result's pattern back, where v is the value of the pattern b, and r is what `narrow_pattern` makes of b
module _ (v : Float) (b r : ℕ) (is : of_bits binary64 b ≡ v) (made : r ≡ to_bits binary32 (converted binary32 (of_bits binary64 b))) where
  pub read_back : of_bits binary32 r ≡ converted binary32 v
  read_back = ap (of_bits binary32) (made ∙ ap (λ (y : Float). to_bits binary32 (converted binary32 y)) is) ∙ of_bits-to_bits binary32 (converted binary32 v) (convert-fits binary32 v)

  pub read-lt : r < 2 ^ 32
  read-lt = subst (λ (n : ℕ). n < 2 ^ 32) (sym made) (to_bits-lt binary32 (converted binary32 (of_bits binary64 b)) (convert-fits binary32 (of_bits binary64 b)))

  pub read_number : is_nan v ≡ false → T (not (nan_bits binary32 r))
  read_number n = subst (λ (t : Bool). T (not t)) (sym (nan_bits_is binary32 r ∙ ap is_nan read_back ∙ convert_number binary32 v n)) tt

-- the minus sign put back
pub narrowed-minus : (x : Float) → negative x ≡ true → neg (converted binary32 (magnitude_of x)) ≡ converted binary32 x
narrowed-minus x n = ap (λ (z : Float). neg (converted binary32 z)) (sym (magnitude-of-negative x n)) ∙ ap neg (convert-neg binary32 x) ∙ neg-neg (converted binary32 x)

pub narrowed-nan : (x : Float) {flag : Bool} → flag ≡ is_nan x → flag ≡ true → nan ≡ converted binary32 x
unfolding converted
narrowed-nan x e t = let z : x ≡ nan = nan_is x (told e t) in rw z
