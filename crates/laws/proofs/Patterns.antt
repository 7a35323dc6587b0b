-- The bit pattern of a size that is counted in the format's smallest values: it grows with the size, and q * 2 ^ k of them have the field k and the digits q.
use mathlib.Core.Path.{◌≡◌, refl, sym, ap, ◌∙◌, subst}
use mathlib.Core.Logic.{◌⊎◌, inl, inr}
use Prim.Native.Nat.{ℕ, suc, ◌+◌, ◌-◌, ◌*◌, ◌/◌, ◌%◌, ◌^◌, ◌≤◌, ◌<◌, zero-le}
use native.Mathlib.Nat.{le_refl, le_trans, le_of_eq, le_antisymm, lt_of_le_of_lt, lt_of_lt_of_le, lt_of_not-le, not-le_of_lt, lt_irrefl, eq-or-lt_of_le, suc-mul, zero-add, mul-one, mul_assoc, mul-div_cancel, mul-le-mul_right, le-div_iff_mul-le, mod-eq_of_lt, pow-succ'}
use native.Mathlib.Omega.{arith}
use mathlib.Core.Bool.{Bool, true, false, not, cond, true≢false}
use lib.IntN.{ℤ}
use lib.Dec.{T, eqb, lit<}
use lib.Pow.{pow-add, pow_pos, pow_mono, shr_mono, shl_lt}
use lib.Ieee.{Float, nan, inf, fin, Format, binary32, binary64, prec, emax, low, ones, hid, top, up, down, size, odd, units, is_nan, fits, nan_bits, of_fields, of_bits, to_bits}
use lib.Ieee.Digits.{size-lt, size-le, size_reaches}
use lib.Ieee.Fits.{kept-lt, two, two-le_pos, down_pos}
use lib.Ieee.Bits.{of_bits-to_bits, nan_bits_is, nan_bits_above}
use lib.Ieee.Exact.{HasValue, odd_sign, units_val}
use borrow.Author.Tests.{le-ltb, lt-leb, le-leb, ltb-false, ne_eqb}
use Rattle.laws.proofs.Cases.{lt-or-ge}

-- the bit pattern of n of the format's smallest values
abbrev pub pattern : Format → ℕ → ℕ
pattern f n = (size n - prec f) * hid f + n / 2 ^ (size n - prec f)

doubled : (f : Format) → 2 ^ prec f ≡ hid f + hid f
doubled binary32 = refl
doubled binary64 = refl

-- ---- a larger size has a larger pattern
-- a number with more digits than the format keeps fills them all
full : (f : Format) (b : ℕ) → 0 < size b - prec f → hid f ≤ b / 2 ^ (size b - prec f)
full f b h =
    (le-div_iff_mul-le (pow_pos (size b - prec f))).1
    (le_trans (le_of_eq (sym (pow-add 2 (prec f - 1) (size b - prec f)))) (size_reaches b (prec f - 1 + (size b - prec f)) (last (size b) (prec f) (two-le_pos (prec f) (two f)) h)))
  where
    last : (z p : ℕ) → 0 < p → 0 < z - p → p - 1 + (z - p) < z
    last z p P k = omega arith

pub pattern-mono : (f : Format) (a b : ℕ) → a ≤ b → pattern f a ≤ pattern f b
pattern-mono f a b h = elim (eq-or-lt_of_le (fewer (size a) (size b) (prec f) (size-le a (size b) (lt_of_le_of_lt h (size-lt b))))) [
  | inl e ↦ subst (λ (k : ℕ). k * hid f + a / 2 ^ k ≤ pattern f b) (sym e) (more ((size b - prec f) * hid f) (shr_mono (size b - prec f) h))
  | inr l ↦ further l (kept-lt (prec f) a) (full f b (lt_of_le_of_lt zero-le l))
]
  where
    fewer : (x y p : ℕ) → x ≤ y → x - p ≤ y - p
    fewer x y p k = omega arith

    more : (x : ℕ) {y z : ℕ} → y ≤ z → x + y ≤ x + z
    more x k = omega arith

    further : {j k x y : ℕ} → j < k → x < 2 ^ prec f → hid f ≤ y → j * hid f + x ≤ k * hid f + y
    further {j} {k} l p q =
        let up : j * hid f + hid f ≤ k * hid f = le_trans (le_of_eq (sym (suc-mul j (hid f)))) (mul-le-mul_right (hid f) l) in
        let d = doubled f in
        omega arith

-- below the overflow it is below the infinity's
pub pattern_lt : (f : Format) (n : ℕ) → n < 2 ^ (low f + suc (emax f)) → pattern f n < ones f * hid f
pattern_lt f n h = room f (size n) (n / 2 ^ (size n - prec f)) (size-le n (low f + suc (emax f)) h) (kept-lt (prec f) n)
  where
    room : (g : Format) (z x : ℕ) → z ≤ low g + suc (emax g) → x < 2 ^ prec g → (z - prec g) * hid g + x < ones g * hid g
    room binary32 z x h a = omega arith
    room binary64 z x h a = omega arith

-- ---- the pattern of q * 2 ^ k, for a q that the format keeps whole
pub size_exact : (a b n : ℕ) → b ≡ suc a → 2 ^ a ≤ n → n < 2 ^ b → size n ≡ b
size_exact a b n e lo hi =
    le_antisymm (size-le n b hi)
    (subst (λ (z : ℕ). z ≤ size n) (sym e) (lt_of_not-le (λ (g : size n ≤ a). lt_irrefl n (lt_of_lt_of_le (size-lt n) (le_trans (pow_mono g) lo)))))

dropped : (f : Format) (n k : ℕ) → size n - prec f ≡ k → pattern f n ≡ k * hid f + n / 2 ^ k
dropped f n k e = ap (λ (j : ℕ). j * hid f + n / 2 ^ j) e

-- all digits are kept, and they are q
pattern-normal : (f : Format) (q k : ℕ) → hid f ≤ q → q < 2 ^ prec f → pattern f (q * 2 ^ k) ≡ k * hid f + q
pattern-normal f q k lo hi =
    let some = two-le_pos (prec f) (two f) in
    let z =
    size_exact (prec f - 1 + k) (prec f + k) (q * 2 ^ k) (omega arith)
    (le_trans (le_of_eq (pow-add 2 (prec f - 1) k)) (mul-le-mul_right (2 ^ k) lo)) (shl_lt (prec f) k hi) in
    dropped f (q * 2 ^ k) k (drop (size (q * 2 ^ k)) (prec f) z) ∙ ap (λ (w : ℕ). k * hid f + w) (mul-div_cancel q (pow_pos k))
  where
    drop : (z p : ℕ) → z ≡ p + k → z - p ≡ k
    drop z p e = omega arith

-- one digit more is dropped, and the leading one alone is kept
pattern-carry : (f : Format) (k : ℕ) → pattern f (2 ^ prec f * 2 ^ k) ≡ k * hid f + 2 ^ prec f
pattern-carry f k =
    ap (pattern f) (ap (λ (z : ℕ). z * 2 ^ k) (twice f) ∙ mul_assoc (hid f) 2 (2 ^ k) ∙ ap (λ (z : ℕ). hid f * z) (sym (pow-succ' 2 k)))
    ∙ pattern-normal f (hid f) (suc k) (le_refl (hid f)) (under f)
    ∙ sum (hid f) (2 ^ prec f) (doubled f)
  where
    twice : (g : Format) → 2 ^ prec g ≡ hid g * 2
    twice binary32 = refl
    twice binary64 = refl

    under : (g : Format) → hid g < 2 ^ prec g
    under binary32 = lit< tt
    under binary64 = lit< tt

    sum : (h p : ℕ) → p ≡ h + h → suc k * h + h ≡ k * h + p
    sum h p e = ap (λ (z : ℕ). z + h) (suc-mul k h) ∙ grouped (k * h) h p e
      where
        grouped : (a h p : ℕ) → p ≡ h + h → a + h + h ≡ a + p
        grouped a h p e = omega arith

-- fewer digits than the format keeps: nothing is dropped
pattern-subnormal : (f : Format) (q : ℕ) → q < hid f → pattern f (q * 2 ^ 0) ≡ 0 * hid f + q
pattern-subnormal f q hi =
    dropped f (q * 2 ^ 0) 0 (none (size (q * 2 ^ 0)) (prec f) (size-le (q * 2 ^ 0) (prec f - 1) (subst (λ (n : ℕ). n < hid f) (sym (mul-one q)) hi)))
    ∙ ap (λ (w : ℕ). 0 * hid f + w) (mul-div_cancel q (pow_pos 0))
  where
    none : (z p : ℕ) → z ≤ p - 1 → z - p ≡ 0
    none z p h = omega arith

pub pattern-at : (f : Format) (q k : ℕ) → q ≤ 2 ^ prec f → (k ≡ 0) ⊎ (hid f ≤ q) → pattern f (q * 2 ^ k) ≡ k * hid f + q
pattern-at f q k hi lo = elim (eq-or-lt_of_le hi) [
  | inl e ↦ subst (λ (n : ℕ). pattern f (n * 2 ^ k) ≡ k * hid f + n) (sym e) (pattern-carry f k)
  | inr l ↦ elim (lt-or-ge q (hid f)) [
    | inl s ↦ below s lo
    | inr g ↦ pattern-normal f q k g l
  ]
]
  where
    below : q < hid f → (k ≡ 0) ⊎ (hid f ≤ q) → pattern f (q * 2 ^ k) ≡ k * hid f + q
    below s (inl z) = subst (λ (j : ℕ). pattern f (q * 2 ^ j) ≡ j * hid f + q) (sym z) (pattern-subnormal f q s)
    below s (inr g) = absurd (not-le_of_lt s g)

-- ---- writing: the pattern of a value, by its size
pub written : (f : Format) (m : ℕ) (e : ℤ) → to_bits f (fin false m e) ≡ pattern f (m * up e * 2 ^ low f / down e)
unfolding to_bits
written f m e =
    let n = m * up e * 2 ^ low f / down e in
    ap (λ (a : ℕ). a + n / 2 ^ (size n - prec f)) (zero-add ((size n - prec f) * hid f))

pub bits_of_value : (f : Format) (x : Float) (a : ℕ) → HasValue x false a (2 ^ low f) → to_bits f x ≡ pattern f a
bits_of_value f nan a v = absurd v
bits_of_value f (inf s) a v = absurd v
bits_of_value f (fin true m e) a v = absurd (true≢false v.0)
bits_of_value f (fin false m e) a v = written f m e ∙ ap (pattern f) (ap (λ (n : ℕ). n / down e) v.1 ∙ mul-div_cancel a (down_pos e))

pub bits-of-units : (f : Format) (q k : ℕ) → q ≤ 2 ^ prec f → (k ≡ 0) ⊎ (hid f ≤ q) → q * 2 ^ k < 2 ^ (low f + suc (emax f)) → to_bits f (units f false q k) ≡ k * hid f + q
bits-of-units f q k hi lo under = bits_of_value f (units f false q k) (q * 2 ^ k) (units_val f false q k under) ∙ pattern-at f q k hi lo

pub bits-of-overflow : (f : Format) (q k : ℕ) → 2 ^ (low f + suc (emax f)) ≤ q * 2 ^ k → to_bits f (units f false q k) ≡ ones f * hid f
unfolding units to_bits
bits-of-overflow f q k h =
    ap (λ (t : Bool). to_bits f (cond t (odd (suc (prec f)) false q k (low f)) (inf false))) (le-ltb (q * 2 ^ k) (2 ^ (low f + suc (emax f))) h)
    ∙ zero-add (ones f * hid f)

pub known-by-bits : (f : Format) (x y : Float) → T (fits f x) → T (fits f y) → to_bits f x ≡ to_bits f y → x ≡ y
known-by-bits f x y h k p = sym (of_bits-to_bits f x h) ∙ ap (of_bits f) p ∙ of_bits-to_bits f y k

pub same-value : (f : Format) (x y : Float) (n : ℕ) → T (fits f x) → T (fits f y) → HasValue x false n (2 ^ low f) → HasValue y false n (2 ^ low f) → x ≡ y
same-value f x y n fx fy hx hy = known-by-bits f x y fx fy (bits_of_value f x n hx ∙ sym (bits_of_value f y n hy))

-- ---- reading: the value of a pattern, by its fields
pub read-plus : (f : Format) (b : ℕ) → b < top f → of_bits f b ≡ of_fields f false (b / hid f) (b % hid f)
unfolding of_bits
read-plus f b h =
    ap (λ (s : Bool). of_fields f s (b % top f / hid f) (b % hid f)) (lt-leb (top f) b h)
    ∙ ap (λ (n : ℕ). of_fields f false (n / hid f) (b % hid f)) (mod-eq_of_lt h)

pub read-minus : (f : Format) (b : ℕ) → top f ≤ b → of_bits f b ≡ of_fields f true (b % top f / hid f) (b % hid f)
unfolding of_bits
read-minus f b h = ap (λ (s : Bool). of_fields f s (b % top f / hid f) (b % hid f)) (le-leb (top f) b h)

-- a field of 0 has no leading digit
pub no_lead : (f : Format) (s : Bool) (t : ℕ) → HasValue (of_fields f s 0 t) s t (2 ^ low f)
unfolding of_fields
no_lead f s t = rw mul-one at (odd_sign (prec f) s t 0 (low f))

pub with_lead : (f : Format) (s : Bool) (x t : ℕ) → suc x < ones f → HasValue (of_fields f s (suc x) t) s ((hid f + t) * 2 ^ x) (2 ^ low f)
unfolding of_fields
with_lead f s x t h =
    subst (λ (b : Bool). HasValue (cond b (cond (eqb t 0) (inf s) nan) (odd (prec f) s (hid f + t) x (low f))) s ((hid f + t) * 2 ^ x) (2 ^ low f))
    (sym (ne_eqb (suc x) (ones f) (λ e. lt_irrefl (ones f) (subst (λ (n : ℕ). n < ones f) e h)))) (odd_sign (prec f) s (hid f + t) x (low f))

-- ---- a NaN's patterns lie above the infinity's
pub number-pattern : (f : Format) (x : Float) → T (fits f x) → is_nan x ≡ false → to_bits f x % top f ≤ ones f * hid f
number-pattern f x h n =
    ltb-false (ones f * hid f) (to_bits f x % top f)
    (sym (nan_bits_above f (to_bits f x)) ∙ nan_bits_is f (to_bits f x) ∙ ap is_nan (of_bits-to_bits f x h) ∙ n)

pub pattern_number : (f : Format) (r : ℕ) → r % top f ≤ ones f * hid f → T (not (nan_bits f r))
pattern_number f r h = subst (λ (b : Bool). T (not b)) (sym (nan_bits_above f r ∙ le-ltb (ones f * hid f) (r % top f) h)) tt
