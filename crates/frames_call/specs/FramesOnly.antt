-- What `ulyptesh_frames` promises, as one definition of what it is given. Definitions only.
use Rattle.std.specs.Prelude.{false, cond, ℕ, ltb, length, None, Some, Ok, Err}
use Rattle.calls.specs.Call.{Call, positions_of}
use Rattle.calls.specs.Rows.{Rows, room_in}
use Rattle.checks.specs.Checks.{Checked, checked}
use Rattle.checks.specs.Refusals.{number_of}
use Rattle.frames.specs.Run.{loud_before, holding_frames, stop_at}
use Rattle.frames_call.specs.declared.FramesResult.{FramesResult}

-- 01's number, or 0; the position that 9 names; the count of rows
abbrev pub frames_result : ℕ → ℕ → ℕ → FramesResult
frames_result refusal position count = record { refusal = refusal; position = position; count = count }

-- what the call answers, and what it leaves in the lent rows
pub record FramesOutcome : Type 0 where
  pub answer : FramesResult
  pub rows : Rows

-- both together
abbrev pub frames_outcome : FramesResult → Rows → FramesOutcome
frames_outcome answer rows = record { answer = answer; rows = rows }

-- the loud frames of so many positions, in front of what stood there: number 9 where a row that is not finite stops the run
unfoldable pub frames_found : Call → ℕ → Rows → FramesOutcome
frames_found c positions lent =
    let k = stop_at c positions in
    let found = loud_before c k in
    frames_outcome (cond (ltb k positions) (frames_result 9 k (length found)) (frames_result 0 0 (length found))) (holding_frames found lent)

-- a call that the table refuses, or finds empty, changes nothing; any other goes through its frame positions
abbrev pub frames_after : Call → Rows → Checked → FramesOutcome
frames_after c lent (Err refusal) = frames_outcome (frames_result (number_of refusal) 0 0) lent
frames_after c lent (Ok None) = frames_outcome (frames_result 0 0 0) lent
frames_after c lent (Ok (Some positions)) = frames_found c positions lent

-- what the table says: without row 5, and row 8 asks for a frame row to each position
abbrev pub frames_table : Call → Rows → Checked
frames_table c lent = checked c false (ltb (room_in lent) (positions_of c.settings (length c.samples)))

-- the whole outcome of a call
abbrev pub frames_only : Call → Rows → FramesOutcome
frames_only c lent = frames_after c lent (frames_table c lent)
