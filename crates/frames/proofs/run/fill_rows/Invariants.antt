-- Each way out of a turn is a law of `Runs`.
use Rattle.calls.specs.Lent.{call_in, rows_in, SameFrameRows}
use Rattle.frames.proofs.Runs.{Reached, Stocked}
use Rattle.frames.proofs.run.fill_rows.Given as goal

abbrev pub invariant-loop-position : goal.invariant-loop-position
invariant-loop-position l =
    Reached (call_in l.fn.call) l.positions (rows_in l.initial.rows) (rows_in l.rows) l.position l.count × Stocked (call_in l.fn.call) l.held l.block l.position × SameFrameRows l.initial.rows l.rows
