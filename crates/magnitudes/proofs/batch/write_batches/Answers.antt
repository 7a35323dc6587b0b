-- A batch a turn.
use native.Mathlib.Omega.{arith}
use mathlib.Core.Path.{refl, ◌∙◌}
use Rattle.laws.proofs.Turns.{turns-start, turns-again, turns-end}
use Rattle.magnitudes.specs.InFours.{put_batches}
use Rattle.magnitudes.proofs.batch.write_batches.Goals as goal

pub loop-j-init : goal.loop-j-init
unfolding put_batches
loop-j-init c = (turns-start _ _ _, refl)

pub loop-j-preserved : goal.loop-j-preserved
loop-j-preserved c =
    let turn = c.loop-j in
    (turns-again _ _ turn.j turn.invariant.0 (omega arith) (c.put_four.ensures ∙ rw (c.roots_of_four.ensures, c.goertzel_power_batch_4-powers.ensures, c.coefficients_from-four.ensures) refl), c.put_four.auto.room ∙ turn.invariant.1)

pub returns : goal.returns
returns c = let end = c.loop-j in turns-end _ _ end.j end.invariant.0 (omega arith)
