-- A value a turn, from -0.
use mathlib.Core.Path.{refl}
use lib.Ieee.{of_bits, neg}
use Rattle.laws.proofs.Turns.{turns-start, turns-again, turns-end}
use Rattle.numbers.specs.Sum.{sum_of}
use Rattle.numbers.proofs.twelve.sum_of_twelve.Goals as goal

pub loop-value-init : goal.loop-value-init
unfolding of_bits neg
loop-value-init c = turns-start _ _ _

pub loop-value-preserved : goal.loop-value-preserved
loop-value-preserved c = turns-again _ 12 c.loop-value.value-index c.loop-value.invariant c.loop-value-test.true refl

pub returns : goal.returns
unfolding sum_of
returns c = turns-end _ 12 c.loop-value.value-index c.loop-value.invariant c.loop-value-test.false
