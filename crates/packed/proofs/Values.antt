-- What a float's bit pattern says of its size.
use Rattle.std.specs.Prelude.{Some, None}
use mathlib.Core.Path.{◌≡◌, refl, sym, ap, ◌∙◌, subst}
use mathlib.Core.Bool.{Bool, true, false, cond}
use mathlib.Core.Logic.{inl, inr}
use Prim.Native.Nat.{ℕ, suc, ◌+◌, ◌-◌, ◌*◌, ◌/◌, ◌%◌, ◌^◌, ◌≤◌, ◌<◌, zero-le}
use native.Mathlib.Nat.{mul_assoc, mul_comm, mul_right_comm, mul-le-mul, mul-one, div-eq_of_lt, le-div_iff_mul-le, lt_of_le_of_lt, lt_of_lt_of_le, le_trans, le_of_eq, le_of_lt, eq-or-lt_of_le, mod-lt}
use native.Mathlib.Omega.{arith}
use lib.Dec.{T, eqb, leb, lit<}
use lib.Pow.{pow_pos, pow-add, pow_mono}
use borrow.Author.Tests.{ne_eqb, eq-eqb, le-leb, lt-leb}
use lib.Ieee.{Float, nan, inf, fin, Format, binary64, fits, lt, to_bits, of_bits, of_fields, odd, up, down, hid, top, low, ones, prec}
use lib.Ieee.Bits.{of_bits-to_bits}
use lib.Ieee.Exact.{HasValue, odd_sign}
use lib.Ieee.Fits.{down_pos}
use lib.Ieee.Nearest.{div_same}
use Rattle.laws.specs.Values.{plus_zero}
use Rattle.packed.specs.Packing.{limited, whole_times}
use Rattle.packed.proofs.Signs.{times-from-zero}

-- the fields of a float's pattern
abbrev pub sign_of : Format → Float → Bool
sign_of f x = leb (top f) (to_bits f x)

abbrev pub field_of : Format → Float → ℕ
field_of f x = to_bits f x % top f / hid f

abbrev pub digits_of : Format → Float → ℕ
digits_of f x = to_bits f x % hid f

-- a float is what the fields of its pattern say
module _ (f : Format) (x : Float) (fit : T (fits f x)) where
  of-fields : (k : ℕ) → field_of f x ≡ k → x ≡ of_fields f (sign_of f x) k (digits_of f x)
  unfolding of_bits
  of-fields k e = sym (of_bits-to_bits f x fit) ∙ ap (λ (n : ℕ). of_fields f (sign_of f x) n (digits_of f x)) e

  -- no leading digit
  pub small-value : field_of f x ≡ 0 → HasValue x (sign_of f x) (digits_of f x * 2 ^ 0) (2 ^ low f)
  unfolding of_fields
  small-value e = subst (λ (y : Float). HasValue y (sign_of f x) (digits_of f x * 2 ^ 0) (2 ^ low f)) (sym (of-fields 0 e)) (odd_sign (prec f) (sign_of f x) (digits_of f x) 0 (low f))

  -- a leading digit
  pub normal-value : (k : ℕ) → field_of f x ≡ suc k → (suc k ≡ ones f → ⊥) → HasValue x (sign_of f x) ((hid f + digits_of f x) * 2 ^ k) (2 ^ low f)
  unfolding of_fields
  normal-value k e finite =
      let s = sign_of f x in
      let t = digits_of f x in
      let is : x ≡ odd (prec f) s (hid f + t) k (low f) =
      of-fields (suc k) e ∙ ap (λ (b : Bool). cond b (cond (eqb t 0) (inf s) nan) (odd (prec f) s (hid f + t) k (low f))) (ne_eqb (suc k) (ones f) finite) in
      subst (λ (y : Float). HasValue y s ((hid f + t) * 2 ^ k) (2 ^ low f)) (sym is) (odd_sign (prec f) s (hid f + t) k (low f))

  -- an infinity or a NaN
  pub no_value : (n limit k : ℕ) → field_of f x ≡ suc k → suc k ≡ ones f → whole_times x n limit ≡ None
  unfolding of_fields
  no_value n limit k e all =
      let s = sign_of f x in
      let t = digits_of f x in
      let is : x ≡ cond (eqb t 0) (inf s) nan =
      of-fields (suc k) e ∙ ap (λ (b : Bool). cond b (cond (eqb t 0) (inf s) nan) (odd (prec f) s (hid f + t) k (low f))) (eq-eqb (suc k) (ones f) all) in
      ap (λ (y : Float). whole_times y n limit) is ∙ either (eqb t 0)
    where
      either : (b : Bool) → whole_times (cond b (inf (sign_of f x)) nan) n limit ≡ None
      either true = refl
      either false = refl

-- a float of the size a / c, from 0 up, holds as many whole parts as the fraction
pub times-of-value : (x : Float) (s : Bool) (a c n limit : ℕ) → 0 < c → HasValue x s a c → lt x plus_zero ≡ false → whole_times x n limit ≡ limited limit (a * n / c)
times-of-value nan s a c n limit above v plus = absurd v
times-of-value (inf t) s a c n limit above v plus = absurd v
times-of-value (fin t m e) s a c n limit above v plus =
    let cross : m * up e * n * c ≡ a * n * down e = mul_right_comm (m * up e) n c ∙ ap (λ (z : ℕ). z * n) v.1 ∙ mul_right_comm a (down e) n in
    times-from-zero t m e n limit plus ∙ ap (limited limit) (div_same (m * up e * n) (down e) (a * n) c (down_pos e) above cross)

-- a common power of two cancels
pub cancel : (q n k p : ℕ) → q * 2 ^ k * n / 2 ^ (p + k) ≡ q * n / 2 ^ p
cancel q n k p =
    div_same (q * 2 ^ k * n) (2 ^ (p + k)) (q * n) (2 ^ p) (pow_pos (p + k)) (pow_pos p)
    (ap (λ (z : ℕ). z * 2 ^ p) (mul_right_comm q (2 ^ k) n) ∙ mul_assoc (q * n) (2 ^ k) (2 ^ p)
    ∙ ap (λ (z : ℕ). q * n * z) (mul_comm (2 ^ k) (2 ^ p) ∙ sym (pow-add 2 p k)))

-- the whole parts of a double from 0 up, by its exponent's field
module _ (x : Float) (fit : T (fits binary64 x)) (plus : lt x plus_zero ≡ false) (n limit : ℕ) where
  abbrev field : ℕ
  field = field_of binary64 x

  abbrev digits : ℕ
  digits = digits_of binary64 x

  pub tiny : n ≤ 1000 → field ≡ 0 → Some 0 ≡ whole_times x n limit
  tiny few e =
      let below : digits * 1 * n < 2 ^ 1074 =
      lt_of_le_of_lt (mul-le-mul {n₂ = 2 ^ 52} {m₂ = 1000} (le_trans (le_of_eq (mul-one digits)) (le_of_lt (mod-lt (to_bits binary64 x) (lit< tt)))) few) (lit< tt) in
      sym
      (times-of-value x (sign_of binary64 x) (digits * 1) (2 ^ 1074) n limit (lit< tt) (small-value binary64 x fit e) plus ∙ ap (limited limit) (div-eq_of_lt below)
      ∙ ap (λ (b : Bool). cond b (Some 0) None) (le-leb 0 limit zero-le))

  -- what a normal double holds
  normal : (k : ℕ) → field ≡ suc k → (suc k ≡ 2047 → ⊥) → whole_times x n limit ≡ limited limit ((2 ^ 52 + digits) * 2 ^ k * n / 2 ^ 1074)
  normal k e finite = times-of-value x (sign_of binary64 x) ((2 ^ 52 + digits) * 2 ^ k) (2 ^ 1074) n limit (lit< tt) (normal-value binary64 x fit k e finite) plus

  pub usual : 0 < field → field < 1055 → whole_times x n limit ≡ limited limit ((2 ^ 52 + digits) * n / 2 ^ (1075 - field))
  usual some few =
      let k = field - 1 in
      let e : field ≡ suc k = omega arith in
      let apart : 1074 ≡ 1075 - field + k = omega arith in
      normal k e (λ all. omega arith)
      ∙ ap (limited limit) (ap (λ (z : ℕ). (2 ^ 52 + digits) * 2 ^ k * n / 2 ^ z) apart ∙ cancel (2 ^ 52 + digits) n k (1075 - field))

  pub big : 1 ≤ n → limit < 2 ^ 32 → 1055 ≤ field → None ≡ whole_times x n limit
  big some within many =
      let k = field - 1 in
      let e : field ≡ suc k = omega arith in
      let width : field ≤ 2047 = omega arith in
      elim (eq-or-lt_of_le width) [
        | inl all ↦ sym (no_value binary64 x fit n limit k e (sym e ∙ all))
        | inr less ↦
            let q = (2 ^ 52 + digits) * 2 ^ k * n / 2 ^ 1074 in
            let large : 2 ^ 32 * 2 ^ 1074 ≤ (2 ^ 52 + digits) * 2 ^ k * n =
            mul-le-mul {n₁ = 2 ^ 52 * 2 ^ 1054} {m₁ = 1} (mul-le-mul {n₁ = 2 ^ 52} {m₁ = 2 ^ 1054} (omega arith) (pow_mono {i = 1054} (omega arith))) some in
            sym (normal k e (λ all. omega arith) ∙ ap (λ (b : Bool). cond b (Some q) None) (lt-leb q limit (lt_of_lt_of_le within ((le-div_iff_mul-le (lit< tt)).1 large))))
      ]
