-- What the calls ensure, put together.
use lib.Ieee.{of_bits}
use Rattle.alternates.specs.Alternate.{held_seconds}
use Rattle.alternates.proofs.alternate.held_seconds.Goals as goal

pub returns : goal.returns
unfolding held_seconds of_bits
returns c = cc
