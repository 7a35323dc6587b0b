-- A square a turn.
use mathlib.Core.Path.{refl}
use lib.Ieee.{of_bits}
use Rattle.laws.proofs.Turns.{turns-start, turns-again, turns-end}
use Rattle.correlations.specs.inside.Deviations.{deviation_energy}
use Rattle.correlations.proofs.deviations.energy.Goals as goal

pub loop-deviation-init : goal.loop-deviation-init
unfolding of_bits deviation_energy
loop-deviation-init c = turns-start _ _ _

pub loop-deviation-preserved : goal.loop-deviation-preserved
loop-deviation-preserved c = turns-again _ 12 c.loop-deviation.deviation-index c.loop-deviation.invariant c.loop-deviation-test.true refl

pub returns : goal.returns
returns c = turns-end _ 12 c.loop-deviation.deviation-index c.loop-deviation.invariant c.loop-deviation-test.false
