-- The definition itself.
use mathlib.Core.Path.{refl}
use Rattle.filters.specs.Resonator.{power_of}
use Rattle.filters.proofs.resonator.power.Goals as goal

pub returns : goal.returns
unfolding power_of
returns c = refl
