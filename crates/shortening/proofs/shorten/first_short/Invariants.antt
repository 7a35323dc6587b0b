-- A search: each way out of a turn is a law of `Searches`.
use Prim.Native.Nat.{◌-◌}
use Rattle.shortening.proofs.Searches.{Searched}
use Rattle.shortening.proofs.shorten.first_short.Given as goal

abbrev pub invariant-loop-i : goal.invariant-loop-i
invariant-loop-i l = Searched l.least l.rows.starts.now l.rows.ends.now l.count l.i

abbrev pub decreases-loop-i : goal.decreases-loop-i
decreases-loop-i l = l.count - l.i
