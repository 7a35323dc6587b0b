-- A row a turn.
use native.Mathlib.Omega.{arith}
use mathlib.Core.Path.{refl}
use lib.Ieee.{of_bits}
use Rattle.laws.proofs.Turns.{turns-start, turns-again, turns-end}
use Rattle.filters.specs.Classes.{class_added, added_by_class, weights_by_class}
use Rattle.filters.proofs.classes.sum_weights.Goals as goal

pub loop-k-init : goal.loop-k-init
unfolding weights_by_class added_by_class of_bits
loop-k-init c = turns-start _ _ _

pub loop-k-preserved : goal.loop-k-preserved
unfolding class_added
loop-k-preserved c = turns-again _ _ c.loop-k.k c.loop-k.invariant c.loop-k-test.true (rw c.class_at.ensures.0 refl)

pub returns : goal.returns
returns c = turns-end _ _ c.loop-k.k c.loop-k.invariant (omega arith)
