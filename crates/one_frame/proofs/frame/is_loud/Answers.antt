-- `is_loud` meets its contract.
use Rattle.std.proofs.Common.{refl}
use lib.Ieee.{of_bits}
use Rattle.one_frame.specs.Frame.{loud}
use Rattle.one_frame.proofs.frame.is_loud.Goals as goal

pub returns : goal.returns
unfolding of_bits loud
returns c = refl
