-- Each return is the key of one kind of value.
use mathlib.Core.Path.{sym, subst}
use native.Mathlib.Omega.{arith}
use lib.Dec.{T}
use lib.Ieee.{binary32}
use lib.Ieee.Bits.{to_bits-lt}
use Rattle.numbers.proofs.Tests.{number, key-of-nan, key-of-plus, key-of-minus}
use Rattle.numbers.proofs.single.F32Floating.order_key.Goals as goal

pub returns-then-is_nan-clause-key : goal.returns-then-is_nan-clause-key
returns-then-is_nan-clause-key c = key-of-nan binary32 c.args.self c.is_nan.ensures.value c.if-is_nan.true

pub float_to_bits-bits : goal.float_to_bits-bits
float_to_bits-bits c = number c.args.self c.is_nan.ensures.value c.if-is_nan.false

pub overflow_sub-result : goal.overflow_sub-result
overflow_sub-result c = omega (arith, to_bits-lt binary32 _ (subst T (sym c.well_formed.0.1) tt))

pub returns-then-bits-lt2147483648-clause-key : goal.returns-then-bits-lt2147483648-clause-key
returns-then-bits-lt2147483648-clause-key c = key-of-plus binary32 c.args.self c.is_nan.ensures.value c.if-is_nan.false c.if-bits-lt2147483648.true

pub returns-else-bits-lt2147483648-clause-key : goal.returns-else-bits-lt2147483648-clause-key
returns-else-bits-lt2147483648-clause-key c = key-of-minus binary32 c.args.self c.is_nan.ensures.value c.if-is_nan.false c.if-bits-lt2147483648.false
