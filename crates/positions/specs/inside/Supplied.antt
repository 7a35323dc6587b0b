-- What the run over the positions and the analysis after it need: the checks show it. No promise names it. Definitions only.
use Rattle.std.specs.Prelude.{ℕ, ◌≤◌, length}
use Rattle.calls.specs.Call.{Call}
use Rattle.frames.specs.inside.Rows.{Ready}
use Rattle.windows.specs.Span.{span_of}
use Rattle.segments.specs.inside.Located.{Prepared}
use Rattle.rooms.specs.Lent.{Lent}
use Rattle.loud_frames.specs.inside.Rows.{heard_in}

-- frame rows, a work number to each position, and room for estimates and segments
pub record Supplied (c : Call) (positions : ℕ) (l : Lent) : Type 0 where
  pub ready : Ready c l.frames positions
  pub work : positions ≤ length l.work
  pub prepared : Prepared (span_of c.settings (length c.samples)) (heard_in 0 l.frames) l.estimates l.segments
