-- The slice is written from the front, a value a turn.
use mathlib.Core.Path.{refl}
use native.Mathlib.Omega.{arith}
use Rattle.laws.proofs.Front.{filled-start, filled_more, filled-whole}
use Rattle.stored_analyses.specs.Stored.{values_at}
use Rattle.stored_analyses.proofs.stored.read_values.Goals as goal

pub loop-i-init : goal.loop-i-init
loop-i-init c = filled-start _ _

pub loop-i-preserved : goal.loop-i-preserved
loop-i-preserved c = let turn = c.loop-i in rw c.value_at.ensures (filled_more _ _ _ turn.i turn.invariant (omega arith))

pub shape_of-values : goal.shape_of-values
shape_of-values c = c.loop-i.invariant.long

pub returns : goal.returns
unfolding values_at
returns c = filled-whole _ _ _ c.loop-i.i _ c.loop-i.invariant (omega arith) refl
