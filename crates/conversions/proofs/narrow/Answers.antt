-- The pattern of the magnitude is narrowed, and the sign put back.
use Rattle.std.proofs.Common.{◌≡◌, ◌-◌, ◌≤◌, Bool, true, false, T, sym, ap, ◌∙◌, subst, arith, le-leb}
use lib.Ieee.{Float, binary32, binary64, fits, is_nan, neg, of_bits, to_bits}
use lib.Ieee.Bits.{of_bits-to_bits, to_bits-lt}
use Rattle.laws.specs.Values.{negative, magnitude_of}
use Rattle.laws.proofs.Signs.{made-nan, sign_bit, clear-is, magnitude-clear, magnitude-read}
use Rattle.laws.proofs.Patterns.{number-pattern}
use Rattle.laws.proofs.Table.{told}
use Rattle.numbers.proofs.Tests.{number}
use Rattle.conversions.proofs.Narrows.{read_back, read-lt, read_number, narrowed-minus, narrowed-nan}
use Rattle.conversions.proofs.narrow.Goals as goal

-- a value of the format is that of its pattern
module _ (x : Float) (h : fits binary64 x ≡ true) where
  held : T (fits binary64 x)
  held = subst T (sym h) tt

  as_read : of_bits binary64 (to_bits binary64 x) ≡ x
  as_read = of_bits-to_bits binary64 x held

  -- and with the minus sign its pattern less the sign's bit is that of its magnitude
  module _ {nan? : Bool} (n : nan? ≡ is_nan x) (ordered : nan? ≡ false) (high : 9223372036854775808 ≤ to_bits binary64 x) where
    minus : negative x ≡ true
    minus = sym (sign_bit binary64 x held (number x n ordered)) ∙ le-leb 9223372036854775808 (to_bits binary64 x) high

    minus-sign : T (negative x)
    minus-sign = subst T (sym minus) tt

    size-read : of_bits binary64 (to_bits binary64 x - 9223372036854775808) ≡ magnitude_of x
    size-read = magnitude-read binary64 x held minus-sign

pub returns-then-is_nan : goal.returns-then-is_nan
returns-then-is_nan c = made-nan binary32 ∙ narrowed-nan c.args.x c.is_nan.ensures.value c.if-is_nan.true

pub float_to_bits-bits : goal.float_to_bits-bits
float_to_bits-bits c = number c.args.x c.is_nan.ensures.value c.if-is_nan.false

pub narrow_pattern-requires : goal.narrow_pattern-requires
narrow_pattern-requires c = omega (arith, number-pattern binary64 c.args.x (held c.args.x c.well_formed.0.1) (told c.is_nan.ensures.value c.if-is_nan.false))

pub overflow_cast-result : goal.overflow_cast-result
overflow_cast-result c = record { fits = read-lt _ _ c.narrow_pattern.result (as_read c.args.x c.well_formed.0.1) c.narrow_pattern.ensures }

pub float_from_bits-result : goal.float_from_bits-result
float_from_bits-result c = read_number _ _ c.narrow_pattern.result (as_read c.args.x c.well_formed.0.1) c.narrow_pattern.ensures (told c.is_nan.ensures.value c.if-is_nan.false)

pub returns-then-bits-lt9223372036854775808 : goal.returns-then-bits-lt9223372036854775808
returns-then-bits-lt9223372036854775808 c = read_back _ _ c.narrow_pattern.result (as_read c.args.x c.well_formed.0.1) c.narrow_pattern.ensures

-- ---- the minus sign
pub narrow_pattern-requires-else-bits-lt9223372036854775808 : goal.narrow_pattern-requires-else-bits-lt9223372036854775808
narrow_pattern-requires-else-bits-lt9223372036854775808 c =
    let x = c.args.x in
    let fit = held x c.well_formed.0.1 in
    omega (arith, number-pattern binary64 x fit (told c.is_nan.ensures.value c.if-is_nan.false), to_bits-lt binary64 x fit)

pub overflow_cast-result-else-bits-lt9223372036854775808 : goal.overflow_cast-result-else-bits-lt9223372036854775808
overflow_cast-result-else-bits-lt9223372036854775808 c =
    let read = size-read c.args.x c.well_formed.0.1 c.is_nan.ensures.value c.if-is_nan.false c.if-bits-lt9223372036854775808.false in
    record { fits = read-lt _ _ c.narrow_pattern-else-bits-lt9223372036854775808.result read c.narrow_pattern-else-bits-lt9223372036854775808.ensures }

pub float_from_bits-result-else-bits-lt9223372036854775808 : goal.float_from_bits-result-else-bits-lt9223372036854775808
float_from_bits-result-else-bits-lt9223372036854775808 c =
    let x = c.args.x in
    let read = size-read x c.well_formed.0.1 c.is_nan.ensures.value c.if-is_nan.false c.if-bits-lt9223372036854775808.false in
    let sign = minus-sign x c.well_formed.0.1 c.is_nan.ensures.value c.if-is_nan.false c.if-bits-lt9223372036854775808.false in
    read_number _ _ c.narrow_pattern-else-bits-lt9223372036854775808.result read c.narrow_pattern-else-bits-lt9223372036854775808.ensures (clear-is (magnitude_of x) (magnitude-clear x sign)).0

pub returns-else-bits-lt9223372036854775808 : goal.returns-else-bits-lt9223372036854775808
returns-else-bits-lt9223372036854775808 c =
    let x = c.args.x in
    let read = size-read x c.well_formed.0.1 c.is_nan.ensures.value c.if-is_nan.false c.if-bits-lt9223372036854775808.false in
    let sign = minus x c.well_formed.0.1 c.is_nan.ensures.value c.if-is_nan.false c.if-bits-lt9223372036854775808.false in
    ap neg (read_back _ _ c.narrow_pattern-else-bits-lt9223372036854775808.result read c.narrow_pattern-else-bits-lt9223372036854775808.ensures) ∙ narrowed-minus x sign
