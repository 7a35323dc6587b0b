-- A value of the frame a turn.
use native.Mathlib.Omega.{arith}
use mathlib.Core.Path.{refl, ◌∙◌}
use Rattle.laws.proofs.Turns.{turns-start, turns-again, turns-end}
use Rattle.magnitudes.specs.SideBySide.{run_rows}
use Rattle.magnitudes.proofs.side_by_side.run_rows.Goals as goal

pub loop-i-init : goal.loop-i-init
unfolding run_rows
loop-i-init c = (turns-start _ _ _, refl, refl)

pub loop-i-preserved : goal.loop-i-preserved
loop-i-preserved c =
    let turn = c.loop-i in
    (turns-again _ _ turn.i turn.invariant.0 (omega arith) (c.step_rows.ensures ∙ rw c.windowed-x.ensures refl), c.step_rows.auto.last ∙ turn.invariant.1, c.step_rows.auto.before ∙ turn.invariant.2)

pub returns : goal.returns
returns c = let end = c.loop-i in turns-end _ _ end.i end.invariant.0 (omega arith)
