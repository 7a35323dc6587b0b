-- The work numbers are written from the front, a frame a turn.
use native.Mathlib.Omega.{arith}
use Rattle.laws.proofs.Front.{filled-start, filled_more, filled-to}
use Rattle.onsets.specs.Weighted.{weighted_at}
use Rattle.onsets.proofs.weighted.weigh_bin.Goals as goal

pub loop-j-init : goal.loop-j-init
loop-j-init c = filled-start _ _

pub bounds-work-j : goal.bounds-work-j
bounds-work-j c = let l = c.loop-j.invariant.long in omega arith

pub loop-j-preserved : goal.loop-j-preserved
unfolding weighted_at
loop-j-preserved c = rw c.weight_from.ensures (filled_more _ _ _ c.loop-j.j c.loop-j.invariant (omega arith))

pub shape_of-work : goal.shape_of-work
shape_of-work c = c.loop-j.invariant.long

pub returns : goal.returns
returns c = filled-to _ _ _ c.loop-j.j c.args.count c.loop-j.invariant (omega arith)
