-- Closing what a turn leaves is closing what it found: each law stands in `Gap`.
use Rattle.records.proofs.Gap.{Closing}
use Rattle.records.proofs.close_gap.Given as goal

abbrev pub invariant-loop-j : goal.invariant-loop-j
invariant-loop-j l = Closing l.p l.count l.fn.records l.j l.records
