-- A row a turn: each law stands in `Empties`; the rows keep their slices.
use Rattle.timeline.specs.inside.Lent.{segments_lent, SameSegments}
use Rattle.shortening.proofs.Empties.{Emptying}
use Rattle.shortening.proofs.shorten.empty_rows.Given as goal

abbrev pub invariant-loop-i : goal.invariant-loop-i
invariant-loop-i l = SameSegments l.initial.rows l.rows × Emptying l.from l.count (segments_lent l.initial.rows) (segments_lent l.rows) l.i
