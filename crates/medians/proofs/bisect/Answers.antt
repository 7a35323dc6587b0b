-- A part of the keys goes in a turn, and the one at the rank stays.
use native.Mathlib.Omega.{arith}
use Rattle.medians.proofs.Halves.{upper-part, lower-part}
use Rattle.ranks.proofs.Found.{search-ends}
use Rattle.medians.proofs.bisect.Goals as goal

pub loop-width-init : goal.loop-width-init
loop-width-init c = c.requires

pub loop-width-preserved-then-count_below-sought : goal.loop-width-preserved-then-count_below-sought
loop-width-preserved-then-count_below-sought c = upper-part _ _ _ _ _ _ c.loop-width.invariant (omega arith) (omega arith) (omega (arith, c.count_below.ensures))

pub loop-width-preserved : goal.loop-width-preserved
loop-width-preserved c = lower-part _ _ _ _ _ _ c.loop-width.invariant (omega arith) (omega arith) (omega (arith, c.count_below.ensures))

pub returns : goal.returns
returns c = search-ends c.args.work.now _ _ c.shared_slice_known-1.given _ _ c.loop-width.invariant c.loop-width-test.false
