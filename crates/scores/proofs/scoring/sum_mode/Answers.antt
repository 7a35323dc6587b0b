-- A profile a turn.
use lib.Ieee.{of_bits}
use Rattle.laws.proofs.Turns.{turns-start, turns-again, turns-end}
use Rattle.scores.specs.inside.Modes.{mode_turn, mode_sums}
use Rattle.scores.proofs.scoring.sum_mode.Goals as goal

pub loop-p-init : goal.loop-p-init
unfolding of_bits mode_sums
loop-p-init c = turns-start _ _ _

pub loop-p-preserved : goal.loop-p-preserved
unfolding mode_turn
loop-p-preserved c =
    turns-again _ 4 c.loop-p.p c.loop-p.invariant c.loop-p-test.true
    (rw (c.add_twelve-sums.ensures, c.correlations-more.ensures, c.divisors_at-at_roots.ensures, c.wheel_at-wheel.ensures))

pub returns : goal.returns
returns c = turns-end _ 4 c.loop-p.p c.loop-p.invariant c.loop-p-test.false
