use Rattle.std.proofs.Common.{◌-◌}
use Rattle.records.proofs.Places.{Searched}
use Rattle.records.proofs.first_short.Given as goal

abbrev pub invariant-loop-i : goal.invariant-loop-i
invariant-loop-i l = Searched l.least l.count l.records l.i

abbrev pub decreases-loop-i : goal.decreases-loop-i
decreases-loop-i l = l.count - l.i
