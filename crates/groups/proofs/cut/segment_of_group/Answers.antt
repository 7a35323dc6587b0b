-- What the calls ensure, put together.
use Rattle.groups.specs.inside.Written.{grouped}
use Rattle.groups.proofs.cut.segment_of_group.Goals as goal

pub majority_key-requires : goal.majority_key-requires
majority_key-requires c = c.requires.0

pub returns : goal.returns
unfolding grouped
returns c = cc
