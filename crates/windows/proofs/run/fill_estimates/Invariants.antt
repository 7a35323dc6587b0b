-- The run's start, a turn and its end are laws of `Runs`; the rows keep their slices.
use Rattle.gathering.specs.inside.Lent.{frames_lent}
use Rattle.timeline.specs.inside.Lent.{estimates_lent, SameEstimates}
use Rattle.windows.proofs.Runs.{Reached}
use Rattle.windows.proofs.run.fill_estimates.Given as goal

abbrev pub invariant-loop : goal.invariant-loop
invariant-loop l =
    SameEstimates l.initial.rows l.rows × Reached l.span (frames_lent l.frames) l.windows (estimates_lent l.initial.rows) (estimates_lent l.rows) l.ahead l.start l.counter l.n
