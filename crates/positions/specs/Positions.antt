-- All frame positions in turn and what follows from their loud frames, written from the Rust's `analyze`. Definitions only.
use Rattle.std.specs.Prelude.{ℕ, cond, ltb, length}
use Rattle.calls.specs.Call.{Call}
use Rattle.frames.specs.Run.{loud_before, holding_frames, stop_at}
use Rattle.rooms.specs.Lent.{Lent, lent}
use Rattle.answers.specs.Answer.{keyless}
use Rattle.loud_frames.specs.Loud.{AnalyseOutcome, analyse_outcome, loud_analysed}

-- the loud frames of so many positions, in front of what stood in their rows, and what follows from them; number 9 where a row that is not finite stops the run
unfoldable pub positions_analysed : Call → ℕ → Lent → AnalyseOutcome
positions_analysed c positions l =
    let k = stop_at c positions in
    let found = loud_before c k in
    let held = lent (holding_frames found l.frames) l.work l.estimates l.segments in
    cond (ltb k positions) (analyse_outcome (keyless 9 k (length found)) held) (loud_analysed c.settings (length c.samples) found held)
