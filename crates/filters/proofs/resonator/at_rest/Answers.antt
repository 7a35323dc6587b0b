-- The literals are the definition's.
use mathlib.Core.Path.{refl}
use lib.Ieee.{of_bits}
use Rattle.filters.proofs.resonator.at_rest.Goals as goal

pub returns : goal.returns
unfolding of_bits
returns c = refl
