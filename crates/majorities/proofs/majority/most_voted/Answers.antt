-- The loop's invariant: the keys that are left lead from who leads so far to the last of the largest.
use borrow.Author.Tests.{le-leb, lt-leb}
use mathlib.Core.Path.{◌≡◌, refl, ap, ◌∙◌}
use native.Mathlib.Omega.{arith}
use lib.ListN.{get_or, length, take}
use lib.Seq.{take-length}
use Rattle.laws.specs.Lists.{fold}
use Rattle.laws.specs.Leader.{leads, leading_key, last_largest}
use Rattle.laws.proofs.Lists.{fold-again, fold_end}
use Rattle.majorities.specs.inside.Tally.{most_voted}
use Rattle.majorities.proofs.Counting.{from_zero}
use Rattle.majorities.proofs.majority.most_voted.Invariants.{step}
use Rattle.majorities.proofs.majority.most_voted.Goals as goal
use Rattle.majorities.proofs.majority.most_voted.Goals.{then-most-votes, else-most-votes}

pub loop-key-init : goal.loop-key-init
loop-key-init c = refl

pub loop-key-preserved : goal.loop-key-preserved
loop-key-preserved c =
    let t = c.args.tally in
    let keys = take t.met t.order in
    let turn = c.loop-key in
    let next : leads c.if-most-votes.leading c.if-most-votes.most ≡ step t (leads turn.leading turn.most) (get_or keys turn.key-index 0) =
    elim c.if-most-votes.branch [
      | then-most-votes w ↦ rw (w.leading-is, w.most-is, le-leb _ _ w.if-most-votes.true) refl
      | else-most-votes w ↦ rw (w.leading-is, w.most-is, lt-leb _ _ w.if-most-votes.false) refl
    ] in
    fold-again (step t) keys (length keys) turn.key-index 0 turn.invariant c.loop-key-test.true (omega arith) next

pub returns : goal.returns
unfolding most_voted last_largest
returns c =
    let t = c.args.tally in
    let keys = take t.met t.order in
    let all = fold_end (step t) keys (length keys) c.loop-key.key-index c.loop-key.invariant (omega (arith, c.loop-key-test.false, c.loop-key.auto.key-index-end)) in
    ap (leading_key 0) (all ∙ ap (fold (step t) (leads 0 0)) (take-length keys)) ∙ from_zero _ keys
