-- What the calls ensure, put together.
use lib.Ieee.{of_bits}
use Rattle.timeline.proofs.segment.Segment.emptied.Goals as goal

pub returns : goal.returns
unfolding of_bits
returns c = cc
