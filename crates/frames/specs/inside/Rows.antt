-- The run over frame positions as its code has it: what it answers, what it leaves in lent rows, what it needs. No promise names it. Definitions only.
use Rattle.std.specs.Prelude.{ℕ, ◌<◌, ◌≤◌, ◌≡◌, cond, length, set, ltb, Result, Ok, Err}
use Rattle.calls.specs.Call.{Call, positions_of}
use Rattle.calls.specs.Rows.{Rows}
use Rattle.calls.specs.inside.Parts.{rows}
use Rattle.sheets.specs.Sheet.{Formed}
use Rattle.one_frame.specs.declared.frame.Row.{Row}
use Rattle.frames.specs.Run.{loud_before, holding_frames, stop_at}
use Rattle.frames.specs.declared.run.NotFinite.{NotFinite}

-- the lent rows with one row put into place n
abbrev pub put : Row → ℕ → Rows → Rows
put r n now = rows (set now.centres n r.centre) (set now.values n r.values) (set now.energies n r.energy)

-- the position that is not finite, and the rows before it
abbrev pub not_finite : ℕ → ℕ → NotFinite
not_finite position count = record { position = position; count = count }

-- a run's answer: how many rows it wrote, or where it was stopped
abbrev pub Filled : Type 0
Filled = Result ℕ NotFinite

-- what a run answers, and what it leaves
pub record Run : Type 0 where
  pub answer : Filled
  pub rows : Rows

-- both together
abbrev pub ran : Filled → Rows → Run
ran answer rows = record { answer = answer; rows = rows }

-- it goes to the first broken position, or through all
abbrev pub run_to : Call → ℕ → ℕ → Rows → Run
run_to c positions k before =
    let found = loud_before c k in
    ran (cond (ltb k positions) (Err (not_finite k (length found))) (Ok (length found))) (holding_frames found before)

-- over so many positions
unfoldable pub run_of : Call → ℕ → Rows → Run
run_of c positions before = run_to c positions (stop_at c positions) before

-- what a run needs: the checks show it
pub record Ready (c : Call) (before : Rows) (positions : ℕ) : Type 0 where
  pub many : positions ≡ positions_of c.settings (length c.samples)
  pub hops : 0 < c.settings.hop_size
  pub framed : 0 < c.settings.frame_size
  pub small : c.settings.frame_size ≤ 65536
  pub enough : c.settings.frame_size ≤ length c.samples
  pub sized : c.sheet.head.frame_size ≡ c.settings.frame_size
  pub formed : Formed c.sheet
  pub centres : positions ≤ length before.centres
  pub values : positions ≤ length before.values
  pub energies : positions ≤ length before.energies
