-- A value of the frame a turn.
use native.Mathlib.Omega.{arith}
use mathlib.Core.Path.{refl, ◌∙◌}
use Rattle.laws.proofs.Turns.{turns-start, turns-again, turns-end}
use Rattle.filters.specs.Resonator.{resonated}
use Rattle.magnitudes.proofs.batch.run_row.Goals as goal

pub loop-i-init : goal.loop-i-init
unfolding resonated
loop-i-init c = rw c.at_rest-delay.ensures (turns-start _ _ _)

pub loop-i-preserved : goal.loop-i-preserved
loop-i-preserved c =
    let turn = c.loop-i in
    turns-again _ _ turn.i turn.invariant (omega arith) (c.step-delay.ensures ∙ rw c.windowed-x.ensures refl)

pub returns : goal.returns
returns c = let end = c.loop-i in turns-end _ _ end.i end.invariant (omega arith)
