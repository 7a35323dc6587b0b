-- The sum over the count.
use Rattle.groups.specs.Groups.{mean_confidence}
use Rattle.groups.proofs.cut.mean_confidence.Goals as goal

pub returns : goal.returns
unfolding mean_confidence
returns c = cc
