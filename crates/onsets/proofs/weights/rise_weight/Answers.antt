-- The callee's definition, put in.
use lib.Ieee.{of_bits}
use Rattle.onsets.specs.Onsets.{rise_weight}
use Rattle.onsets.proofs.weights.rise_weight.Goals as goal

pub returns : goal.returns
unfolding rise_weight of_bits
returns c = rw c.larger.ensures
