-- The loop's invariant: what was counted and noted after so many numbers.
use native.Mathlib.Omega.{arith}
use Rattle.majorities.proofs.Counting.{counted_start, votes-fit, unmet-fits, counted-new, counted-known, counted-all}
use Rattle.majorities.proofs.majority.count_votes.Goals as goal
use Rattle.majorities.proofs.majority.count_votes.Goals.{then-not-known-at, else-not-known-at}

pub loop-key-init : goal.loop-key-init
loop-key-init c = counted_start c.args.numbers.now

pub overflow_add-votes : goal.overflow_add-votes
overflow_add-votes c =
    let turn = c.loop-key in
    let inside = c.loop-key-test.true in
    omega (arith, votes-fit c.args.numbers.now _ _ _ _ _ turn.invariant inside (c.requires turn.key-index inside), inside)

pub bounds-order-met : goal.bounds-order-met
bounds-order-met c =
    let turn = c.loop-key in
    let inside = c.loop-key-test.true in
    unmet-fits c.args.numbers.now _ _ _ _ _ turn.invariant inside (c.requires turn.key-index inside) _ c.if-not-known-at.true

pub overflow_add-met : goal.overflow_add-met
overflow_add-met c =
    let turn = c.loop-key in
    let inside = c.loop-key-test.true in
    omega (arith, unmet-fits c.args.numbers.now _ _ _ _ _ turn.invariant inside (c.requires turn.key-index inside) _ c.if-not-known-at.true)

pub loop-key-preserved : goal.loop-key-preserved
loop-key-preserved c =
    let turn = c.loop-key in
    let inside = c.loop-key-test.true in
    let below = c.requires turn.key-index inside in
    elim c.if-not-known-at.branch [
      | then-not-known-at w ↦ rw (w.order-is, w.known-is, w.met-is) (counted-new c.args.numbers.now _ _ _ _ _ turn.invariant inside below _ w.if-not-known-at.true)
      | else-not-known-at w ↦ rw (w.order-is, w.known-is, w.met-is) (counted-known c.args.numbers.now _ _ _ _ _ turn.invariant inside below _ w.if-not-known-at.false)
    ]

pub returns : goal.returns
returns c = counted-all c.args.numbers.now _ _ _ _ _ c.loop-key.invariant c.loop-key-test.false
