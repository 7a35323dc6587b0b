-- What is noted of the first i segments; a law for each way through a turn.
use Rattle.timeline.specs.inside.Segments.{stretches, stretches_in}
use Rattle.alternates.proofs.Noting.{Noting}
use Rattle.alternates.proofs.alternate.note_segments.Given as goal

abbrev pub invariant-loop-i : goal.invariant-loop-i
invariant-loop-i l = Noting l.reported (stretches_in (stretches l.starts l.ends l.keys) l.i) l.sums l.order l.known l.met
