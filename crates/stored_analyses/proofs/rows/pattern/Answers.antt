-- The NaN has one pattern; of any other value the bits are the pattern.
use mathlib.Core.Path.{sym, ap}
use lib.Ieee.{binary64, to_bits}
use Rattle.laws.proofs.Table.{told}
use Rattle.laws.proofs.Signs.{nan_is, not-nan}
use Rattle.stored_analyses.proofs.rows.pattern.Goals as goal

pub returns-then-is_nan : goal.returns-then-is_nan
unfolding to_bits
returns-then-is_nan c = sym (ap (to_bits binary64) (nan_is c.args.x (told c.is_nan.ensures.value c.if-is_nan.true)))

pub float_to_bits-result : goal.float_to_bits-result
float_to_bits-result c = not-nan c.args.x (told c.is_nan.ensures.value c.if-is_nan.false)
