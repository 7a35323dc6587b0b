-- Each way through a turn is a law of `Cuts`; the rows keep their slices.
use Rattle.timeline.specs.inside.Lent.{columns_lent, segments_lent, SameSegments}
use Rattle.groups.proofs.Cuts.{Cut}
use Rattle.groups.proofs.cut.cut_groups.Given as goal

abbrev pub invariant-loop-j : goal.invariant-loop-j
invariant-loop-j l =
    SameSegments l.initial.rows l.rows × Cut (columns_lent l.columns) l.threshold l.found (segments_lent l.initial.rows) (segments_lent l.rows) l.from l.start l.n l.j
