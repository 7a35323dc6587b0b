-- x - x is +0 for a finite x, and a NaN for any other.
use lib.Ieee.{binary64, of_bits}
use Rattle.laws.proofs.Zero.{finite-test}
use Rattle.numbers.proofs.double.F64Floating.is_finite.Goals as goal

pub returns : goal.returns
unfolding of_bits
returns c = finite-test binary64 c.args.self
