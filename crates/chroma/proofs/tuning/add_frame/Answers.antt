-- A bin a turn.
use Rattle.laws.proofs.Turns.{turns-start, turns-again, turns-end}
use Rattle.chroma.specs.Tuning.{frame_added}
use Rattle.chroma.proofs.tuning.add_frame.Goals as goal

pub loop-bin-init : goal.loop-bin-init
unfolding frame_added
loop-bin-init c = turns-start _ _ _

pub loop-bin-preserved : goal.loop-bin-preserved
loop-bin-preserved c = turns-again _ 12 c.loop-bin.bin c.loop-bin.invariant c.loop-bin-test.true c.add_bin-sums.ensures

pub returns : goal.returns
returns c = turns-end _ 12 c.loop-bin.bin c.loop-bin.invariant c.loop-bin-test.false
