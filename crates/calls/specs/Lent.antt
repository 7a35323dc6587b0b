-- What the references that a call is given refer to. Definitions only.
use Rattle.std.specs.Prelude.{◌≡◌}
use Rattle.calls.specs.Call.{Sheet, Call, lent_sheet, given}
use Rattle.calls.specs.Rows.{Rows, lent_rows}
use Rattle.calls.specs.declared.sheet.LentSheet.{LentSheet}
use Rattle.calls.specs.declared.sheet.LentCall.{LentCall}
use Rattle.calls.specs.declared.rows.FrameRows.{FrameRows}

-- the sheet that is lent
abbrev pub sheet_in : LentSheet → Sheet
sheet_in s = lent_sheet s.head s.window.now s.goertzel_coefficients.now s.goertzel_weights.now s.constant_q_lengths.now s.constant_q_coefficients.now s.constant_q_windows.now

-- the call that is lent
abbrev pub call_in : LentCall → Call
call_in c =
    let s = c.sheet in
    given c.settings s.head c.samples.now s.window.now s.goertzel_coefficients.now s.goertzel_weights.now s.constant_q_lengths.now s.constant_q_coefficients.now s.constant_q_windows.now

-- the rows that stand in the lent slices
abbrev pub rows_in : FrameRows → Rows
rows_in r = lent_rows r.centres.now r.values.now r.energies.now

-- the same slices, though what they hold may change
abbrev pub SameFrameRows : FrameRows → FrameRows → Type 0
SameFrameRows p q = (q.centres.ghost_name ≡ p.centres.ghost_name) × (q.values.ghost_name ≡ p.values.ghost_name) × (q.energies.ghost_name ≡ p.energies.ghost_name)
