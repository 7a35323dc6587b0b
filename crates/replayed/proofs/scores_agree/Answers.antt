-- A score a turn.
use Rattle.laws.proofs.Turns.{turns-start, turns-again, turns-end}
use Rattle.replayed.specs.Records.{same_scores}
use Rattle.replayed.proofs.scores_agree.Goals as goal

pub loop-k-init : goal.loop-k-init
loop-k-init c = turns-start _ _ _

pub loop-k-preserved : goal.loop-k-preserved
loop-k-preserved c = turns-again _ 24 c.loop-k.k c.loop-k.invariant c.loop-k-test.true (rw (c.same_value-same.ensures, c.value_at.ensures))

pub returns : goal.returns
unfolding same_scores
returns c = turns-end _ 24 c.loop-k.k c.loop-k.invariant c.loop-k-test.false
