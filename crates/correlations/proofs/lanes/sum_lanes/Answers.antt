-- A pitch class a turn.
use lib.Ieee.{of_bits}
use Rattle.laws.proofs.Turns.{turns-start, turns-again, turns-end}
use Rattle.correlations.specs.inside.Lanes.{lanes_turn, lanes_of}
use Rattle.correlations.proofs.lanes.sum_lanes.Goals as goal

pub loop-i-init : goal.loop-i-init
unfolding of_bits lanes_of
loop-i-init c = rw c.same_for_all-sums.ensures (turns-start _ _ _)

pub loop-i-preserved : goal.loop-i-preserved
unfolding lanes_turn
loop-i-preserved c =
    turns-again _ 12 c.loop-i.i c.loop-i.invariant c.loop-i-test.true
    (rw (c.add_products-sums.ensures, c.same_for_all.ensures, c.four_at.ensures))

pub returns : goal.returns
returns c = turns-end _ 12 c.loop-i.i c.loop-i.invariant c.loop-i-test.false
