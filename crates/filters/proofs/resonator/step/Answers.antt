-- The definition itself.
use mathlib.Core.Path.{refl}
use Rattle.filters.specs.Resonator.{stepped_of}
use Rattle.filters.proofs.resonator.step.Goals as goal

pub returns : goal.returns
unfolding stepped_of
returns c = refl
