-- A confidence a turn, from -0.
use Rattle.std.proofs.Common.{length, refl}
use Rattle.laws.proofs.Turns.{turns-start, turns-again, turns-end}
use lib.Ieee.{of_bits, neg}
use Rattle.numbers.specs.Sum.{sum_of}
use Rattle.groups.proofs.cut.sum_confidences.Goals as goal

pub loop-confidence-init : goal.loop-confidence-init
unfolding sum_of of_bits neg
loop-confidence-init c = turns-start _ _ _

pub loop-confidence-preserved : goal.loop-confidence-preserved
loop-confidence-preserved c = turns-again _ (length c.args.confidences.now) c.loop-confidence.confidence-index c.loop-confidence.invariant c.loop-confidence-test.true refl

pub returns : goal.returns
returns c = turns-end _ (length c.args.confidences.now) c.loop-confidence.confidence-index c.loop-confidence.invariant c.loop-confidence-test.false
