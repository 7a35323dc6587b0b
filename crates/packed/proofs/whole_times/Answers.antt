-- The sign, then the exponent's field of the pattern say which case the value is.
use Rattle.std.specs.Prelude.{Some, None}
use mathlib.Core.Path.{◌≡◌, sym, ap, ◌∙◌, subst}
use mathlib.Core.Bool.{Bool, false, cond}
use Prim.Native.Nat.{ℕ, ◌+◌, ◌-◌, ◌*◌, ◌/◌, ◌^◌, ◌≤◌}
use native.Mathlib.Nat.{mul-le-mul, lt_of_le_of_lt}
use native.Mathlib.Omega.{arith}
use lib.Dec.{T, lit<}
use lib.Ieee.{binary64, fits, lt, of_bits}
use borrow.Author.Tests.{le-leb, lt-leb}
use Rattle.packed.specs.Packing.{limited, whole_times}
use Rattle.laws.specs.Values.{plus_zero}
use Rattle.laws.proofs.Table.{told}
use Rattle.laws.proofs.Signs.{not-nan}
use Rattle.packed.proofs.Signs.{times-of-nan, times-below-zero}
use Rattle.packed.proofs.Values.{tiny, usual, big, field_of, digits_of}
use Rattle.packed.proofs.whole_times.Goals as goal

pub returns-then-is_nan : goal.returns-then-is_nan
returns-then-is_nan c = times-of-nan c.args.x c.args.n c.args.limit c.is_nan.ensures.value c.if-is_nan.true

pub returns-then-x : goal.returns-then-x
unfolding of_bits
returns-then-x c = times-below-zero c.args.x c.args.n c.args.limit c.if-x.true

pub float_to_bits-bits : goal.float_to_bits-bits
float_to_bits-bits c = not-nan c.args.x (told c.is_nan.ensures.value c.if-is_nan.false)

pub returns-then-field-ge1055 : goal.returns-then-field-ge1055
unfolding of_bits
returns-then-field-ge1055 c =
    let held : T (fits binary64 c.args.x) = subst T (sym c.well_formed.0.1) tt in
    let from_zero : lt c.args.x plus_zero ≡ false = c.if-x.false in
    let field_is : field_of binary64 c.args.x ≡ c.low_bits-field.result / 2 ^ 52 = ap (λ (z : ℕ). z / 2 ^ 52) (sym c.low_bits-field.ensures) in
    big c.args.x (held) (from_zero) c.args.n c.args.limit c.requires.0 c.requires.2 (omega (arith, field_is, c.if-field-ge1055.true))

pub returns-then-field-eq0 : goal.returns-then-field-eq0
unfolding of_bits
returns-then-field-eq0 c =
    let held : T (fits binary64 c.args.x) = subst T (sym c.well_formed.0.1) tt in
    let from_zero : lt c.args.x plus_zero ≡ false = c.if-x.false in
    let field_is : field_of binary64 c.args.x ≡ c.low_bits-field.result / 2 ^ 52 = ap (λ (z : ℕ). z / 2 ^ 52) (sym c.low_bits-field.ensures) in
    tiny c.args.x (held) (from_zero) c.args.n c.args.limit c.requires.1 (field_is ∙ c.if-field-eq0.true)

pub overflow_mul-digits : goal.overflow_mul-digits
overflow_mul-digits c =
    let d : c.low_bits-digits.result ≤ 2 ^ 52 = omega (arith, c.low_bits-digits.ensures) in
    record { fits = lt_of_le_of_lt (mul-le-mul {n₂ = 2 ^ 53} {m₂ = 1000} (omega arith) c.requires.1) (lit< tt) }

pub returns-then-whole-limit : goal.returns-then-whole-limit
unfolding of_bits
returns-then-whole-limit c =
    let held : T (fits binary64 c.args.x) = subst T (sym c.well_formed.0.1) tt in
    let from_zero : lt c.args.x plus_zero ≡ false = c.if-x.false in
    let field_is : field_of binary64 c.args.x ≡ c.low_bits-field.result / 2 ^ 52 = ap (λ (z : ℕ). z / 2 ^ 52) (sym c.low_bits-field.ensures) in
    let digits_are : digits_of binary64 c.args.x ≡ c.low_bits-digits.result = sym c.low_bits-digits.ensures in
    let found : whole_times c.args.x c.args.n c.args.limit ≡ limited c.args.limit c.high_bits-whole.result = let d = c.low_bits-digits.result in
    let field = field_of binary64 c.args.x in
    usual c.args.x (held) (from_zero) c.args.n c.args.limit (omega (arith, field_is, c.if-field-eq0.false)) (omega (arith, field_is, c.if-field-ge1055.false))
    ∙ ap (limited c.args.limit)
    (ap (λ (z : ℕ). (2 ^ 52 + z) * c.args.n / 2 ^ (1075 - field)) (digits_are)
    ∙ ap (λ (z : ℕ). (2 ^ 52 + d) * c.args.n / 2 ^ (1075 - z)) (field_is) ∙ sym c.high_bits-whole.ensures) in
    sym (found ∙ ap (λ (b : Bool). cond b (Some c.high_bits-whole.result) None) (le-leb _ _ c.if-whole-limit.true))

pub returns-else-whole-limit : goal.returns-else-whole-limit
unfolding of_bits
returns-else-whole-limit c =
    let held : T (fits binary64 c.args.x) = subst T (sym c.well_formed.0.1) tt in
    let from_zero : lt c.args.x plus_zero ≡ false = c.if-x.false in
    let field_is : field_of binary64 c.args.x ≡ c.low_bits-field.result / 2 ^ 52 = ap (λ (z : ℕ). z / 2 ^ 52) (sym c.low_bits-field.ensures) in
    let digits_are : digits_of binary64 c.args.x ≡ c.low_bits-digits.result = sym c.low_bits-digits.ensures in
    let found : whole_times c.args.x c.args.n c.args.limit ≡ limited c.args.limit c.high_bits-whole.result = let d = c.low_bits-digits.result in
    let field = field_of binary64 c.args.x in
    usual c.args.x (held) (from_zero) c.args.n c.args.limit (omega (arith, field_is, c.if-field-eq0.false)) (omega (arith, field_is, c.if-field-ge1055.false))
    ∙ ap (limited c.args.limit)
    (ap (λ (z : ℕ). (2 ^ 52 + z) * c.args.n / 2 ^ (1075 - field)) (digits_are)
    ∙ ap (λ (z : ℕ). (2 ^ 52 + d) * c.args.n / 2 ^ (1075 - z)) (field_is) ∙ sym c.high_bits-whole.ensures) in
    sym (found ∙ ap (λ (b : Bool). cond b (Some c.high_bits-whole.result) None) (lt-leb _ _ c.if-whole-limit.false))
