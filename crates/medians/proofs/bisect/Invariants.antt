-- A part of the keys goes in a turn, and the one at the rank stays.
use Rattle.ranks.specs.inside.Search.{SoughtIn}
use Rattle.medians.proofs.bisect.Given as goal

abbrev pub invariant-loop-width : goal.invariant-loop-width
invariant-loop-width l = SoughtIn l.work l.sought.left l.sought.rank l.key l.width

abbrev pub decreases-loop-width : goal.decreases-loop-width
decreases-loop-width l = l.width
