-- One comparison.
use mathlib.Core.Path.{refl}
use lib.Ieee.{lt}
use Rattle.rooms.specs.Room.{hasty}
use Rattle.rooms.proofs.is_hasty.Goals as goal

pub returns : goal.returns
unfolding lt hasty
returns c = refl
