-- The room is written from the front, a row a turn.
use native.Mathlib.Omega.{arith}
use Rattle.laws.proofs.Front.{filled-start, filled_more, filled-to}
use Rattle.magnitudes.specs.SideBySide.{last_magnitudes}
use Rattle.magnitudes.proofs.side_by_side.last_magnitudes.Goals as goal

pub loop-k-init : goal.loop-k-init
loop-k-init c = filled-start _ _

pub loop-k-preserved : goal.loop-k-preserved
loop-k-preserved c = let turn = c.loop-k in rw c.last_magnitude.ensures (filled_more _ _ _ turn.k turn.invariant (omega arith))

pub returns : goal.returns
unfolding last_magnitudes
returns c = let end = c.loop-k in filled-to _ _ _ end.k _ end.invariant (omega arith)
