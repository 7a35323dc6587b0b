-- A NaN is what differs from itself, the sign is the highest bit of the pattern, and rounding keeps the sign.
use mathlib.Core.Path.{◌≡◌, refl, sym, ap, ◌∙◌, subst}
use mathlib.Core.Logic.{◌⊎◌, inl, inr}
use Prim.Native.Nat.{ℕ, zero, suc, ◌+◌, ◌-◌, ◌*◌, ◌%◌, ◌/◌, ◌^◌}
use native.Mathlib.Nat.{zero-add, add-sub_cancel_left}
use native.Mathlib.Omega.{arith}
use mathlib.Core.Bool.{Bool, true, false, not, cond, true≢false, false≢true}
use lib.Dec.{T, eqb, leb, eqb_refl, ltb}
use lib.Ieee.{Float, nan, inf, fin, Format, binary32, binary64, div, size, up, down, prec, low, ones, hid, top, is_nan, ne, neg, odd, of_fields, of_bits, to_bits, fits, emax, units, round}
use lib.Ieee.Fits.{round_is}
use lib.Ieee.Bits.{is_true, of_bits-to_bits}
use Rattle.laws.specs.Values.{negative, magnitude_of, ordered, clear}

-- `x != x` tests for a NaN
pub ne-self : (x : Float) → ne x x ≡ is_nan x
unfolding ne is_nan
ne-self nan = refl
ne-self (inf true) = refl
ne-self (inf false) = refl
ne-self (fin true m e) = rw (is_true (eqb (m * up e * down e) (m * up e * down e)) (eqb_refl (m * up e * down e)))
ne-self (fin false m e) = rw (is_true (eqb (m * up e * down e) (m * up e * down e)) (eqb_refl (m * up e * down e)))

pub not-nan : (x : Float) → is_nan x ≡ false → T (not (is_nan x))
not-nan x e = subst (λ (b : Bool). T (not b)) (sym e) tt

-- what `0.0 / 0.0` makes
pub made-nan : (f : Format) → div f (of_bits f 0) (of_bits f 0) ≡ nan
unfolding div of_bits
made-nan binary32 = refl
made-nan binary64 = refl

-- ---- the three kinds of value
pub kind : (x : Float) → (x ≡ nan) ⊎ (T (clear x) ⊎ T (negative x))
kind nan = inl refl
kind (inf false) = inr (inl tt)
kind (inf true) = inr (inr tt)
kind (fin false m e) = inr (inl tt)
kind (fin true m e) = inr (inr tt)

pub nan_is : (x : Float) → is_nan x ≡ true → x ≡ nan
unfolding is_nan
nan_is nan e = refl
nan_is (inf s) e = absurd (false≢true e)
nan_is (fin s m d) e = absurd (false≢true e)

pub ordered-is : (x : Float) → T (ordered x) → is_nan x ≡ false
unfolding is_nan
ordered-is nan o = absurd o
ordered-is (inf s) o = refl
ordered-is (fin s m e) o = refl

pub ordered_of : (x : Float) → is_nan x ≡ false → T (ordered x)
unfolding is_nan
ordered_of nan n = true≢false n
ordered_of (inf s) n = tt
ordered_of (fin s m e) n = tt

pub clear-is : (x : Float) → T (clear x) → (is_nan x ≡ false) × (negative x ≡ false)
unfolding is_nan
clear-is nan c = absurd c
clear-is (inf true) c = absurd c
clear-is (inf false) c = (refl, refl)
clear-is (fin true m e) c = absurd c
clear-is (fin false m e) c = (refl, refl)

pub negative-is : (x : Float) → T (negative x) → (is_nan x ≡ false) × (negative x ≡ true)
unfolding is_nan
negative-is nan n = absurd n
negative-is (inf true) n = (refl, refl)
negative-is (inf false) n = absurd n
negative-is (fin true m e) n = (refl, refl)
negative-is (fin false m e) n = absurd n

-- ---- the highest bit of the pattern is the sign
odd-negative : (d : ℕ) (s : Bool) (q k l : ℕ) → negative (odd d s q k l) ≡ s
unfolding odd
odd-negative d s zero k l = refl
odd-negative d s (suc q) k l = refl

fields-negative : (f : Format) (s : Bool) (x t : ℕ) → T (not (is_nan (of_fields f s x t))) → negative (of_fields f s x t) ≡ s
unfolding of_fields is_nan
fields-negative f s zero t n = odd-negative (prec f) s t 0 (low f)
fields-negative f s (suc x) t n = go (eqb (suc x) (ones f)) (eqb t 0) n
  where
    go : (a b : Bool) → T (not (is_nan (cond a (cond b (inf s) nan) (odd (prec f) s (hid f + t) x (low f))))) → negative (cond a (cond b (inf s) nan) (odd (prec f) s (hid f + t) x (low f))) ≡ s
    go true true n = refl
    go true false n = absurd n
    go false b n = odd-negative (prec f) s (hid f + t) x (low f)

of_bits-negative : (f : Format) (b : ℕ) → T (not (is_nan (of_bits f b))) → negative (of_bits f b) ≡ leb (top f) b
unfolding of_bits
of_bits-negative f b n = fields-negative f (leb (top f) b) (b % top f / hid f) (b % hid f) n

pub sign_bit : (f : Format) (x : Float) → T (fits f x) → T (not (is_nan x)) → leb (top f) (to_bits f x) ≡ negative x
sign_bit f x h n =
    let e = of_bits-to_bits f x h in
    sym (of_bits-negative f (to_bits f x) (subst (λ (v : Float). T (not (is_nan v))) (sym e) n)) ∙ ap negative e

-- ---- the magnitude
pub magnitude-of-negative : (x : Float) → negative x ≡ true → neg x ≡ magnitude_of x
unfolding neg magnitude_of
magnitude-of-negative nan n = refl
magnitude-of-negative (inf s) n = ap (λ (t : Bool). inf (not t)) n
magnitude-of-negative (fin s m e) n = ap (λ (t : Bool). fin (not t) m e) n

pub magnitude-of-positive : (x : Float) → negative x ≡ false → x ≡ magnitude_of x
unfolding magnitude_of
magnitude-of-positive nan n = refl
magnitude-of-positive (inf s) n = ap inf n
magnitude-of-positive (fin s m e) n = ap (λ (t : Bool). fin t m e) n

pub magnitude-clear : (x : Float) → T (negative x) → T (clear (magnitude_of x))
unfolding magnitude_of
magnitude-clear nan n = absurd n
magnitude-clear (inf s) n = tt
magnitude-clear (fin s m e) n = tt

pub magnitude-fits : (f : Format) (x : Float) → T (fits f x) → T (fits f (magnitude_of x))
unfolding magnitude_of fits
magnitude-fits f nan h = h
magnitude-fits f (inf s) h = h
magnitude-fits f (fin s zero e) h = h
magnitude-fits f (fin s (suc m) e) h = h

-- the pattern of a value with the minus sign is its magnitude's with the highest bit set
pub minus-bits : (f : Format) (x : Float) → T (negative x) → to_bits f x ≡ top f + to_bits f (magnitude_of x)
unfolding magnitude_of to_bits
minus-bits f nan n = absurd n
minus-bits f (inf false) n = absurd n
minus-bits f (inf true) n = ap (λ (b : ℕ). top f + b) (sym (zero-add (ones f * hid f)))
minus-bits f (fin false m e) n = absurd n
minus-bits f (fin true m e) n =
    let w = m * up e * 2 ^ low f / down e in
    let k = size w - prec f in
    regroup (top f) (k * hid f) (w / 2 ^ k)
  where
    regroup : (c a b : ℕ) → c + a + b ≡ c + (0 + a + b)
    regroup c a b = omega arith

pub magnitude-read : (f : Format) (x : Float) → T (fits f x) → T (negative x) → of_bits f (to_bits f x - top f) ≡ magnitude_of x
magnitude-read f x h n =
    ap (λ (b : ℕ). of_bits f (b - top f)) (minus-bits f x n) ∙ ap (of_bits f) (add-sub_cancel_left (top f) (to_bits f (magnitude_of x))) ∙ of_bits-to_bits f (magnitude_of x) (magnitude-fits f x h)

-- ---- the sign turned round
pub neg-neg : (x : Float) → neg (neg x) ≡ x
unfolding neg
neg-neg nan = refl
neg-neg (inf true) = refl
neg-neg (inf false) = refl
neg-neg (fin true m e) = refl
neg-neg (fin false m e) = refl

pub neg-clear : (x : Float) → T (negative x) → T (clear (neg x))
unfolding neg
neg-clear nan n = absurd n
neg-clear (inf true) n = tt
neg-clear (inf false) n = absurd n
neg-clear (fin true m e) n = tt
neg-clear (fin false m e) n = absurd n

-- ---- the sign of what is rounded
neg-odd : (d q k l : ℕ) → neg (odd d false q k l) ≡ odd d true q k l
unfolding neg odd
neg-odd d zero k l = refl
neg-odd d (suc q) k l = refl

neg-units : (f : Format) (q k : ℕ) → neg (units f false q k) ≡ units f true q k
unfolding units
neg-units f q k = go (ltb (q * 2 ^ k) (2 ^ (low f + suc (emax f))))
  where
    go : (b : Bool) → neg (cond b (odd (suc (prec f)) false q k (low f)) (inf false)) ≡ cond b (odd (suc (prec f)) true q k (low f)) (inf true)
    go true = neg-odd (suc (prec f)) q k (low f)
    go false = unfold neg in refl

pub neg-round : (f : Format) (a c : ℕ) → neg (round f false a c) ≡ round f true a c
neg-round f a c = ap neg (round_is f false a c) ∙ neg-units f _ _ ∙ sym (round_is f true a c)
