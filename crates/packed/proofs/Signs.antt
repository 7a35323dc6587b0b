-- Where the sign and the kind of a float decide.
use Rattle.std.specs.Prelude.{None}
use mathlib.Core.Path.{◌≡◌, refl, sym, ap, ◌∙◌}
use mathlib.Core.Bool.{Bool, true, false, cond}
use Prim.Native.Nat.{ℕ, zero, suc, ◌+◌, ◌*◌, ◌/◌, ◌<◌, zero-le}
use native.Mathlib.Nat.{zero-mul, mul-pos, zero-lt-suc, le_trans, le_of_eq, lt_of_lt_of_le}
use native.Mathlib.Omega.{arith}
use lib.Dec.{ltb}
use lib.IntN.{ℤ}
use borrow.Author.Tests.{lt-ltb, le-ltb}
use lib.Ieee.{Float, nan, inf, fin, up, down, lt, is_nan}
use lib.Ieee.Fits.{up_pos}
use Rattle.laws.specs.Values.{plus_zero}
use Rattle.laws.proofs.Table.{told}
use Rattle.laws.proofs.Signs.{nan_is}
use Rattle.packed.specs.Packing.{limited, whole_times, below_zero}

-- a finite float is below 0 where its sign says so and it isn't 0
pub below-zero : (s : Bool) (m : ℕ) (e : ℤ) → lt (fin s m e) plus_zero ≡ below_zero s m
unfolding lt
below-zero true zero e =
    let nothing : 0 * up e * 1 + 0 * down e ≡ 0 = rw (zero-mul (up e), zero-mul (down e)) in
    ap (ltb 0) nothing
below-zero true (suc m) e =
    let some : 0 < suc m * up e * 1 + 0 * down e = lt_of_lt_of_le (mul-pos (zero-lt-suc m) (up_pos e)) (omega arith) in
    lt-ltb 0 (suc m * up e * 1 + 0 * down e) some ∙ sym (lt-ltb 0 (suc m) (zero-lt-suc m))
below-zero false m e = le-ltb (m * up e * 1) (0 * down e) (le_trans (le_of_eq (zero-mul (down e))) zero-le)

-- ---- none
pub times-of-nan : (x : Float) (n limit : ℕ) {flag : Bool} → flag ≡ is_nan x → flag ≡ true → None ≡ whole_times x n limit
times-of-nan x n limit e t = sym (ap (λ (y : Float). whole_times y n limit) (nan_is x (told e t)))

pub times-below-zero : (x : Float) (n limit : ℕ) → lt x plus_zero ≡ true → None ≡ whole_times x n limit
times-below-zero nan n limit e = refl
times-below-zero (inf s) n limit e = refl
times-below-zero (fin s m e) n limit minus = ap (λ (b : Bool). cond b None (limited limit (m * up e * n / down e))) (sym minus ∙ below-zero s m e)

-- ---- some
pub times-from-zero : (s : Bool) (m : ℕ) (e : ℤ) (n limit : ℕ) → lt (fin s m e) plus_zero ≡ false → whole_times (fin s m e) n limit ≡ limited limit (m * up e * n / down e)
times-from-zero s m e n limit plus = ap (λ (b : Bool). cond b None (limited limit (m * up e * n / down e))) (sym (below-zero s m e) ∙ plus)
