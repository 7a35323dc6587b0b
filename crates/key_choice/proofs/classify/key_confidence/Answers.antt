-- Each return is a branch of the definition.
use lib.Ieee.{of_bits}
use Rattle.key_choice.proofs.Branches.{clear-margin, no-margin}
use Rattle.key_choice.proofs.classify.key_confidence.Goals as goal

pub returns-then-size : goal.returns-then-size
unfolding of_bits
returns-then-size c = clear-margin c.args.best c.args.second c.magnitude-size.ensures c.if-size.true c.clamp.ensures

pub returns-else-size : goal.returns-else-size
unfolding of_bits
returns-else-size c = no-margin c.args.best c.args.second c.magnitude-size.ensures c.if-size.false
