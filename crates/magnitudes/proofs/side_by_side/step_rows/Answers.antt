-- Both lists are written from the front, a row a turn.
use borrow.Author.Rules.{rules}
use native.Mathlib.Omega.{arith}
use Rattle.laws.proofs.Front.{filled-start}
use Rattle.magnitudes.proofs.Resonators.{row-stepped, rows-stepped}
use Rattle.magnitudes.proofs.side_by_side.step_rows.Goals as goal

pub loop-k-init : goal.loop-k-init
loop-k-init c = (filled-start _ _, filled-start _ _)

pub loop-k-preserved : goal.loop-k-preserved
loop-k-preserved c =
    let a = c.args in
    row-stepped a.coefficients.now a.x a.last.now a.before.now c.loop-k.k c.loop-k.invariant c.step-next.ensures (search rules) (search rules)

pub returns : goal.returns
returns c =
    let a = c.args in
    rows-stepped a.coefficients.now a.x a.last.now a.before.now c.loop-k.k c.loop-k.invariant (omega arith)
