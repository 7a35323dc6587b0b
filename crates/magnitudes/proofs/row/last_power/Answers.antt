-- The callees' definitions, put together.
use mathlib.Core.Path.{refl}
use lib.Ieee.{of_bits}
use Rattle.magnitudes.specs.Magnitudes.{last_power}
use Rattle.magnitudes.proofs.row.last_power.Goals as goal

pub returns : goal.returns
unfolding last_power of_bits
returns c = rw (c.larger.ensures, c.power.ensures) refl
