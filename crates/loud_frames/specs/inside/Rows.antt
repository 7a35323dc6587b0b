-- The loud frames as their rows have them, and what an analysis of them needs. No promise names it. Definitions only.
use Rattle.std.specs.Prelude.{ℕ, ◌≤◌, List, [], length, get_or}
use Rattle.std.specs.Float.{nan}
use Rattle.laws.specs.Front.{list}
use Rattle.calls.specs.Rows.{Rows}
use Rattle.calls.specs.declared.Settings.{Settings}
use Rattle.one_frame.specs.declared.frame.Row.{Row}
use Rattle.windows.specs.Span.{span_of}
use Rattle.gathering.specs.Gather.{Heard, heard}
use Rattle.segments.specs.inside.Located.{Prepared}
use Rattle.rooms.specs.Lent.{Lent}

-- the loud frame in row i
abbrev pub row_in : Rows → ℕ → Row
row_in r i = record { centre = get_or r.centres i nan; values = get_or r.values i []; energy = get_or r.energies i nan }

-- the loud frames in the first rows
abbrev pub frames_in : Rows → ℕ → List Row
frames_in r count = list (row_in r) count

-- what windows hear of them
abbrev pub heard_in : ℕ → Rows → Heard
heard_in frames r = heard frames r.centres r.values

-- what the analysis of so many loud frames needs: they stand in their rows, with a work number each, and segments have room
pub record Stocked (s : Settings) (count : ℕ) (frames : ℕ) (l : Lent) : Type 0 where
  pub values : frames ≤ length l.frames.values
  pub energies : frames ≤ length l.frames.energies
  pub work : frames ≤ length l.work
  pub prepared : Prepared (span_of s count) (heard_in frames l.frames) l.estimates l.segments
