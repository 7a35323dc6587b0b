-- `is_within` is its definition.
use mathlib.Core.Path.{refl}
use Rattle.gathering.proofs.gather.is_within.Goals as goal

pub returns : goal.returns
returns c = refl
