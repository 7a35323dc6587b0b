-- `nothing_to_do` is its definition.
use mathlib.Core.Path.{refl}
use lib.Ieee.{of_bits}
use Rattle.checks.specs.Checks.{nothing_to_do}
use Rattle.checks.proofs.nothing_to_do.Goals as goal

pub returns : goal.returns
unfolding nothing_to_do of_bits
returns c = refl
