-- A record a turn; no more differ than were read.
use mathlib.Core.Bool.{not}
use mathlib.Core.Path.{ap, ◌∙◌}
use native.Mathlib.Omega.{arith}
use Rattle.laws.proofs.Table.{told-not}
use Rattle.laws.proofs.Turns.{turns-start, turns-again, turns-end}
use Rattle.replayed.specs.Records.{differing}
use Rattle.replayed.proofs.count_differing.Goals as goal
use Rattle.replayed.proofs.count_differing.Goals.{then-not-record_agrees, else-not-record_agrees}

pub loop-n-init : goal.loop-n-init
loop-n-init c = (omega arith, turns-start _ _ _)

pub loop-n-preserved : goal.loop-n-preserved
loop-n-preserved c =
    let told = c.record_agrees.ensures in
    let again = turns-again _ c.args.count c.loop-n.n c.loop-n.invariant.1 c.loop-n-test.true in
    elim c.if-not-record_agrees.branch [
      | then-not-record_agrees w ↦ (omega (arith, w.differ-is), again (w.differ-is ∙ rw (told-not told (ap not w.if-not-record_agrees.true))))
      | else-not-record_agrees w ↦ (omega (arith, w.differ-is), again (w.differ-is ∙ rw (told-not told (ap not w.if-not-record_agrees.false))))
    ]

pub returns : goal.returns
unfolding differing
returns c = turns-end _ c.args.count c.loop-n.n c.loop-n.invariant.1 c.loop-n-test.false
