-- The power of a resonator, whichever square comes first: the two parts of a sum may change places.
use mathlib.Core.Path.{ap}
use lib.Ieee.{Float, binary32, sub, mul}
use Rattle.laws.proofs.Swap.{add-swap}
use Rattle.filters.specs.Resonator.{power_of, EitherSquareFirst}

pub either-square-first : EitherSquareFirst
unfolding power_of
either-square-first coefficient d =
    ap (λ (squares : Float). sub binary32 squares (mul binary32 (mul binary32 coefficient d.last) d.before)) (add-swap binary32 (mul binary32 d.before d.before) (mul binary32 d.last d.last))
