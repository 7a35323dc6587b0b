-- A record a turn; no more differ than were read.
use mathlib.Core.Bool.{not}
use borrow.Author.Rules.{rules}
use Rattle.replayed_analyses.proofs.Calls.{record-there}
use mathlib.Core.Path.{ap, ◌∙◌}
use native.Mathlib.Omega.{arith}
use Prim.Native.Nat.{ℕ}
use Rattle.laws.specs.Turns.{turns}
use Rattle.laws.proofs.Table.{told-not}
use Rattle.laws.proofs.Turns.{turns-start, turns-again, turns-end}
use Rattle.replayed_analyses.specs.Analyses.{record_turn, differing}
use Rattle.replayed_analyses.proofs.analyses.count_differing_analyses.Goals as goal
use Rattle.replayed_analyses.proofs.analyses.count_differing_analyses.Goals.{then-not-record_agrees, else-not-record_agrees}

pub loop-n-init : goal.loop-n-init
loop-n-init c = (omega arith, turns-start _ _ _)

pub overflow_mul-n : goal.overflow_mul-n
overflow_mul-n c = let there = record-there c.args.bytes.now c.loop-n.n c.count_analyses-count.ensures c.loop-n-test.true in search rules

pub overflow_add-n : goal.overflow_add-n
overflow_add-n c = let there = record-there c.args.bytes.now c.loop-n.n c.count_analyses-count.ensures c.loop-n-test.true in search rules

pub record_agrees-requires : goal.record_agrees-requires
record_agrees-requires c = let there = record-there c.args.bytes.now c.loop-n.n c.count_analyses-count.ensures c.loop-n-test.true in (omega arith, omega arith)

pub loop-n-preserved : goal.loop-n-preserved
loop-n-preserved c =
    let told = c.record_agrees.ensures in
    let again = turns-again _ c.count_analyses-count.result c.loop-n.n c.loop-n.invariant.1 c.loop-n-test.true in
    elim c.if-not-record_agrees.branch [
      | then-not-record_agrees w ↦ (omega (arith, w.differ-is), again (w.differ-is ∙ rw (told-not told (ap not w.if-not-record_agrees.true))))
      | else-not-record_agrees w ↦ (omega (arith, w.differ-is), again (w.differ-is ∙ rw (told-not told (ap not w.if-not-record_agrees.false))))
    ]

pub returns : goal.returns
unfolding differing
returns c = turns-end _ c.count_analyses-count.result c.loop-n.n c.loop-n.invariant.1 c.loop-n-test.false ∙ ap (λ (count : ℕ). turns (record_turn c.args.bytes.now) count 0 0) c.count_analyses-count.ensures
