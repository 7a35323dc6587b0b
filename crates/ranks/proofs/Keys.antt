-- An order key is below 2 ^ 32 (2 ^ 64 in binary64), and the value with the order key of x is x.
use mathlib.Core.Path.{◌≡◌, refl, sym, ap, ◌∙◌}
use mathlib.Core.Bool.{not}
use Prim.Native.Nat.{ℕ, ◌+◌, ◌-◌, ◌*◌, ◌≤◌, ◌<◌}
use native.Mathlib.Omega.{arith}
use lib.Dec.{T, ltb, ltb→lt, nltb→le, lit<}
use lib.Ieee.{Float, nan, Format, binary32, binary64, top, fits, is_nan, of_bits, to_bits}
use lib.Ieee.Bits.{is_true, of_bits-to_bits, to_bits-lt}
use borrow.Author.Tests.{lt-ltb, le-ltb}
use Rattle.laws.specs.Order.{order_key}
use Rattle.laws.proofs.Cases.{by-test}
use Rattle.laws.proofs.Signs.{nan_is}
use Rattle.ranks.specs.inside.Search.{pattern_of_key, value_of_key}

top-above-zero : (f : Format) → 0 < top f
top-above-zero binary32 = lit< tt
top-above-zero binary64 = lit< tt

pub key-lt : (f : Format) (x : Float) → order_key f x < 2 * top f
unfolding order_key
key-lt f x =
    by-test (λ (k : ℕ). k < 2 * top f) (is_nan x) (λ _. omega (arith, top-above-zero f))
    (λ _. by-test (λ (k : ℕ). k < 2 * top f) (ltb (to_bits f x) (top f)) (λ (l : T (ltb (to_bits f x) (top f))). omega (arith, ltb→lt (to_bits f x) (top f) l)) (λ _. omega (arith, top-above-zero f)))

-- ---- the pattern back from the key
nan-back : (f : Format) → value_of_key f (2 * top f - 1) ≡ nan
unfolding value_of_key pattern_of_key of_bits
nan-back binary32 = refl
nan-back binary64 = refl

plus-back : (f : Format) (b : ℕ) → pattern_of_key f (b + top f) ≡ b
unfolding pattern_of_key
plus-back f b = rw (le-ltb (b + top f) (top f) (omega arith)) (omega arith)

minus-back : (f : Format) (b : ℕ) → top f ≤ b → b < 2 * top f → pattern_of_key f (2 * top f - 1 - b) ≡ b
unfolding pattern_of_key
minus-back f b h l = rw (lt-ltb (2 * top f - 1 - b) (top f) (omega arith)) (omega arith)

pub value-back : (f : Format) (x : Float) → T (fits f x) → value_of_key f (order_key f x) ≡ x
unfolding order_key value_of_key
value-back f x h =
    by-test (λ (k : ℕ). of_bits f (pattern_of_key f k) ≡ x) (is_nan x) (λ (t : T (is_nan x)). nan-back f ∙ sym (nan_is x (is_true (is_nan x) t)))
    (λ _. by-test (λ (k : ℕ). of_bits f (pattern_of_key f k) ≡ x) (ltb (to_bits f x) (top f))
    (λ _. ap (of_bits f) (plus-back f (to_bits f x)) ∙ of_bits-to_bits f x h)
    (λ (l : T (not (ltb (to_bits f x) (top f)))). ap (of_bits f) (minus-back f (to_bits f x) (nltb→le (to_bits f x) (top f) l) (to_bits-lt f x h)) ∙ of_bits-to_bits f x h))
