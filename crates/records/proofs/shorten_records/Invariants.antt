use Rattle.records.proofs.Shortened.{Shortening}
use Rattle.records.proofs.shorten_records.Given as goal

abbrev pub invariant-loop-n : goal.invariant-loop-n
invariant-loop-n l = Shortening l.least l.count l.fn.records l.n l.records

abbrev pub decreases-loop-n : goal.decreases-loop-n
decreases-loop-n l = l.n
