-- Each return is `closest` by how twice the remainder compares with the unit.
use Rattle.std.proofs.Common.{◌≡◌, ℕ, ◌*◌, ◌%◌, ◌^◌, ◌<◌, sym, ap, ◌∙◌, subst, mod-eq_of_lt, le_antisymm, one-mul, div-le_self, add-one, arith, pow_pos}
use native.Mathlib.Nat.{mod-le}
use lib.Pow.{pow-lt}
use Rattle.laws.proofs.Closest.{closest-under, closest-over, closest-tie}
use Rattle.conversions.proofs.nearest_quotient.Goals as goal

-- what `1 << shift` computes, and that it is 2^shift
abbrev unit_of : ℕ → ℕ
unit_of shift = 1 * 2 ^ shift % 2 ^ 64

unit-is : (shift : ℕ) → shift < 63 → unit_of shift ≡ 2 ^ shift
unit-is shift h = ap (λ (n : ℕ). n % 2 ^ 64) (one-mul (2 ^ shift)) ∙ mod-eq_of_lt (pow-lt {i = shift} {j = 64} (omega arith))

unit-pos : (shift : ℕ) → shift < 63 → 0 < unit_of shift
unit-pos shift h = subst (λ (n : ℕ). 0 < n) (sym (unit-is shift h)) (pow_pos shift)

-- LEFT nonzero-div-whole
-- div-whole c = unit-pos c.args.shift c.requires.1

-- LEFT nonzero-rem-twice
-- rem-twice c = unit-pos c.args.shift c.requires.1

pub overflow_mul-twice : goal.overflow_mul-twice
overflow_mul-twice c = omega (arith, mod-le c.args.digits (unit_of c.args.shift))

pub returns-then-twice-unit : goal.returns-then-twice-unit
returns-then-twice-unit c =
    let u = unit-is c.args.shift c.requires.1 in
    rw u (sym (closest-under c.args.digits (2 ^ c.args.shift) (rw u at c.if-twice-unit.true)))

pub overflow_add-result : goal.overflow_add-result
overflow_add-result c = omega (arith, div-le_self c.args.digits (unit_of c.args.shift))

pub returns-then-unit-twice : goal.returns-then-unit-twice
returns-then-unit-twice c =
    let u = unit-is c.args.shift c.requires.1 in
    rw (u, add-one) (sym (closest-over c.args.digits (2 ^ c.args.shift) (rw u at c.if-unit-twice.true)))

pub overflow_add-result-2 : goal.overflow_add-result-2
overflow_add-result-2 c = omega (arith, div-le_self c.args.digits (unit_of c.args.shift))

pub returns : goal.returns
returns c =
    let u = unit-is c.args.shift c.requires.1 in
    rw u (sym (closest-tie c.args.digits (2 ^ c.args.shift) (rw u at (le_antisymm c.if-unit-twice.false c.if-twice-unit.false))))
