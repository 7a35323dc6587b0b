-- A frame a turn.
use Rattle.std.proofs.Common.{ap, ◌∙◌}
use lib.Ieee.{of_bits}
use Rattle.laws.proofs.Turns.{turns-start, turns-again, turns-end}
use Rattle.chroma.specs.Tuning.{mean_offset, tuning_of}
use Rattle.chroma.proofs.tuning.estimate_tuning.Goals as goal

pub loop-values-init : goal.loop-values-init
unfolding of_bits
loop-values-init c = turns-start _ _ _

pub loop-values-preserved : goal.loop-values-preserved
loop-values-preserved c = turns-again _ _ c.loop-values.values-index c.loop-values.invariant c.loop-values-test.true c.add_frame-peaks.ensures

pub returns : goal.returns
unfolding tuning_of
returns c = c.mean_offset.ensures ∙ ap mean_offset (turns-end _ _ c.loop-values.values-index c.loop-values.invariant c.loop-values-test.false)
