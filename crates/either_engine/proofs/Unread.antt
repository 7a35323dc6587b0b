-- Only row 13 of the check table reads the engine, and it lets both pass.
use mathlib.Core.Path.{◌≡◌, refl, ap, ◌∙◌}
use mathlib.Core.Bool.{Bool, false}
use Prim.Native.Nat.{ℕ, zero, suc, ◌≤◌}
use borrow.Author.Tests.{le-ltb}
use lib.Dec.{ltb}
use lib.ListN.{length}
use Rattle.std.specs.Prelude.{None, Some, Ok, Err}
use Rattle.laws.specs.Table.{any_of}
use Rattle.calls.specs.Call.{Call, seconds_at, positions_of}
use Rattle.calls.specs.Rows.{Rows, room_in}
use Rattle.sheets.specs.Sheet.{matches_call}
use Rattle.checks.specs.Checks.{all_finite, nothing_to_do, Checked, checked}
use Rattle.one_frame.specs.Frame.{row_of}
use Rattle.frames.specs.Run.{energy_at, frame_row, not_finite_at, loud_before, stop_at}
use Rattle.windows.specs.Span.{span_of}
use Rattle.rooms.specs.Lent.{Lent}
use Rattle.rooms.specs.Room.{hasty, too_small}
use Rattle.reports.specs.Report.{report_of}
use Rattle.loud_frames.specs.Loud.{loud_analysed}
use Rattle.positions.specs.Positions.{positions_analysed}
use Rattle.frames_call.specs.FramesOnly.{frames_found, frames_after, frames_table, frames_only}
use Rattle.analysis.specs.Analyse.{after_checks, table_of, analysed}
use Rattle.either_engine.specs.Unread.{by_engine, EngineUnread}

module _ (c : Call) (engine : ℕ) where
  abbrev other : Call
  other = by_engine engine c

  checks-same : c.settings.engine ≤ 1 → engine ≤ 1 → (h crowded : Bool) → checked other h crowded ≡ checked c h crowded
  unfolding checked all_finite nothing_to_do matches_call
  checks-same known named h crowded = rw (le-ltb 1 c.settings.engine known, le-ltb 1 engine named) refl

  stop-same : (positions : ℕ) → stop_at other positions ≡ stop_at c positions
  unfolding stop_at not_finite_at frame_row row_of energy_at seconds_at
  stop-same positions = refl

  energy-same : (k : ℕ) → energy_at other k ≡ energy_at c k
  unfolding energy_at
  energy-same k = refl

  row_same : (k : ℕ) → frame_row other k ≡ frame_row c k
  unfolding frame_row row_of energy_at seconds_at
  row_same k = refl

  loud-same : (k : ℕ) → loud_before other k ≡ loud_before c k
  unfolding loud_before
  loud-same zero = refl
  loud-same (suc k) = rw (energy-same k, row_same k, loud-same k) refl

  run-same : (positions : ℕ) (lent : Lent) → positions_analysed other positions lent ≡ positions_analysed c positions lent
  unfolding positions_analysed loud_analysed report_of span_of seconds_at
  run-same positions lent = rw (stop-same positions, loud-same (stop_at c positions)) refl

  found-same : (positions : ℕ) (lent : Rows) → frames_found other positions lent ≡ frames_found c positions lent
  unfolding frames_found
  found-same positions lent = rw (stop-same positions, loud-same (stop_at c positions)) refl

  after_same : (lent : Lent) (told : Checked) → after_checks other lent told ≡ after_checks c lent told
  after_same lent (Err refusal) = refl
  after_same lent (Ok None) = refl
  after_same lent (Ok (Some positions)) = run-same positions lent

  frames-after-same : (lent : Rows) (told : Checked) → frames_after other lent told ≡ frames_after c lent told
  frames-after-same lent (Err refusal) = refl
  frames-after-same lent (Ok None) = refl
  frames-after-same lent (Ok (Some positions)) = found-same positions lent

  module _ (known : c.settings.engine ≤ 1) (named : engine ≤ 1) where
    table_same : (lent : Lent) → table_of other lent ≡ table_of c lent
    unfolding hasty span_of seconds_at
    table_same lent = checks-same known named (hasty c.settings) (any_of (too_small c.settings (length c.samples) lent))

    analysis-same : (lent : Lent) → analysed other lent ≡ analysed c lent
    analysis-same lent = after_same lent (table_of other lent) ∙ ap (after_checks c lent) (table_same lent)

    frames-same : (lent : Rows) → frames_only other lent ≡ frames_only c lent
    frames-same lent = frames-after-same lent (frames_table other lent) ∙ ap (frames_after c lent) (checks-same known named false (ltb (room_in lent) (positions_of c.settings (length c.samples))))

pub engine-unread : EngineUnread
engine-unread =
    record {
      analysis = λ c lent engine known named. analysis-same c engine known named lent;
      frames = λ c lent engine known named. frames-same c engine known named lent;
    }
