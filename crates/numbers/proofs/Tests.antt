-- From what a function's tests say to its definition, once over the format.
use mathlib.Core.Path.{◌≡◌, refl, sym, ap, ◌∙◌}
use Prim.Native.Nat.{ℕ, ◌+◌, ◌-◌, ◌*◌, ◌%◌, ◌≤◌, ◌<◌}
use mathlib.Core.Bool.{Bool, true, false, not, ◌&&◌, ◌||◌, cond}
use lib.Dec.{T, leb}
use lib.Ieee.{Float, nan, inf, fin, Format, binary32, top, fits, is_nan, lt, eq, div, of_bits, to_bits}
use lib.Ieee.Bits.{nan_bits_is, nan_bits_above}
use Rattle.std.specs.Float.{is_sign_negative}
use borrow.Author.Tests.{lt-ltb, le-ltb}
use Rattle.laws.specs.Values.{negative}
use Rattle.laws.specs.Order.{total_order, order_key}
use Rattle.laws.specs.Pick.{maximum_number, minimum_number}
use Rattle.laws.proofs.Table.{told}
use Rattle.laws.proofs.Total.{total-order}
use Rattle.laws.proofs.Signs.{nan_is, not-nan, made-nan}

-- ---- the sign
pub sign-is : (x : Float) → is_sign_negative x ≡ negative x
unfolding is_sign_negative
sign-is nan = refl
sign-is (inf s) = refl
sign-is (fin s m e) = refl

pub unsigned-nan : (x : Float) {flag : Bool} → flag ≡ is_nan x → flag ≡ true → not flag ≡ negative x
unsigned-nan x e t = ap not t ∙ sym (ap negative (nan_is x (told e t)))

pub number : (x : Float) {flag : Bool} → flag ≡ is_nan x → flag ≡ false → T (not (is_nan x))
number x e t = not-nan x (told e t)

-- ---- the larger and the smaller
module _ (x y : Float) {nan? less? equal? minus? : Bool} (n : nan? ≡ is_nan x) (e : equal? ≡ eq x y) where
  pub larger-is : (t : Bool) → less? ≡ lt x y → minus? ≡ negative x → (nan? || less? || (equal? && minus?)) ≡ t → cond t y x ≡ maximum_number x y
  unfolding maximum_number
  larger-is t l s h = rw (← h, n, l, e, s)

  pub smaller-is : (t : Bool) → less? ≡ lt y x → minus? ≡ negative y → (nan? || less? || (equal? && minus?)) ≡ t → cond t y x ≡ minimum_number x y
  unfolding minimum_number
  smaller-is t l s h = rw (← h, n, l, e, s)

-- ---- the order key
module _ (f : Format) (x : Float) {nan? : Bool} (n : nan? ≡ is_nan x) where
  pub key-of-nan : nan? ≡ true → 2 * top f - 1 ≡ order_key f x
  unfolding order_key
  key-of-nan t = rw (told n t)

  pub key-of-plus : nan? ≡ false → to_bits f x < top f → to_bits f x + top f ≡ order_key f x
  unfolding order_key
  key-of-plus t l = rw (told n t, lt-ltb (to_bits f x) (top f) l)

  pub key-of-minus : nan? ≡ false → top f ≤ to_bits f x → 2 * top f - 1 - to_bits f x ≡ order_key f x
  unfolding order_key
  key-of-minus t l = rw (told n t, le-ltb (to_bits f x) (top f) l)

pub before-is : (f : Format) (x y : Float) → T (fits f x) → T (fits f y) → {a b : ℕ} → a ≡ order_key f x → b ≡ order_key f y → leb a b ≡ total_order x y
before-is f x y h k {a} {b} p q = rw (p, q) (sym ((total-order f).by_key x y h k))

-- ---- the value of a pattern
-- one above the infinity's is the NaN's, which `0.0 / 0.0` is
pub nan_pattern : (b : ℕ) → 0x7f80_0000 < b % 0x8000_0000 → div binary32 (of_bits binary32 0) (of_bits binary32 0) ≡ of_bits binary32 b
nan_pattern b h = made-nan binary32 ∙ sym (nan_is (of_bits binary32 b) (sym (nan_bits_is binary32 b) ∙ nan_bits_above binary32 b ∙ lt-ltb 0x7f80_0000 (b % 0x8000_0000) h))
