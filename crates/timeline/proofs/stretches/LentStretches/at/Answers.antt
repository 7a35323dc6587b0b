-- What the calls ensure, put together.
use lib.Ieee.{of_bits}
use Rattle.timeline.specs.inside.Segments.{stretch_in}
use Rattle.timeline.proofs.stretches.LentStretches.at.Goals as goal

pub returns : goal.returns
unfolding stretch_in of_bits
returns c = cc
