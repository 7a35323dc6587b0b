-- A value a turn: it is written behind those kept, and stays where it passes the test.
use mathlib.Core.Path.{sym, ap, ◌∙◌}
use native.Mathlib.Omega.{arith}
use lib.ListN.{length}
use lib.Seq.{length-take-le}
use Rattle.ranks.proofs.Moved.{moved-start, moved-kept, moved-passed, moved-end}
use Rattle.ranks.proofs.narrowing.keep_within.Goals as goal
use Rattle.ranks.proofs.narrowing.keep_within.Goals.{then-value-pivots, else-value-pivots}

pub loop-i-init : goal.loop-i-init
loop-i-init c = moved-start _ _

pub loop-i-preserved : goal.loop-i-preserved
loop-i-preserved c =
    elim c.if-value-pivots.branch [
      | then-value-pivots w ↦ rw w.kept-is (moved-kept c.loop-i.invariant c.loop-i-test.true w.if-value-pivots.true)
      | else-value-pivots w ↦ rw w.kept-is (moved-passed c.loop-i.invariant c.loop-i-test.true w.if-value-pivots.false)
    ]

pub returns-clause-many : goal.returns-clause-many
returns-clause-many c =
    let last = c.loop-i in
    sym (length-take-le last.kept last.values (omega arith)) ∙ ap length (moved-end _ _ _ last.i _ last.invariant c.loop-i-test.false)

pub returns-clause-front : goal.returns-clause-front
returns-clause-front c = let last = c.loop-i in moved-end _ _ _ last.i _ last.invariant c.loop-i-test.false
