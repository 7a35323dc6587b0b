-- Each return is a branch of the definition.
use lib.Ieee.{of_bits}
use Rattle.whitening.specs.Levels.{whitened}
use Rattle.whitening.proofs.levels.whiten_value.Goals as goal

pub returns-then-x : goal.returns-then-x
unfolding whitened of_bits
returns-then-x c = rw (c.if-x.true, c.square_root.ensures)

pub returns-else-x : goal.returns-else-x
unfolding whitened of_bits
returns-else-x c = rw c.if-x.false
