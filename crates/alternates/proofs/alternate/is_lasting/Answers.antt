-- What the calls ensure, put together.
use lib.Ieee.{of_bits, le}
use Rattle.alternates.specs.Alternate.{lasting}
use Rattle.alternates.proofs.alternate.is_lasting.Goals as goal

pub returns : goal.returns
unfolding lasting of_bits le
returns c = cc
