-- The estimates' centres do not fall, and none lies after the duration. Statements only.
use Rattle.std.specs.Prelude.{ℕ, ◌≤◌, T}
use Rattle.std.specs.Float.{binary64}
use Rattle.laws.specs.Values.{clear, Held, Modest}
use Rattle.timeline.specs.Estimates.{Rising}
use Rattle.windows.specs.Span.{windows_within}
use Rattle.gathering.specs.Gather.{Heard}
use Rattle.windows.specs.Run.{estimates_before}
use Rattle.windows.specs.declared.span.Span.{Span}

-- a window and a hop from 0 up, and a duration far from the overflow
pub record Timed (s : Span) : Type 0 where
  pub window : Held binary64 s.window
  pub hop : T (clear s.hop)
  pub duration : Modest binary64 s.duration

-- of the windows that the loop passes, however many of them and whatever is heard
abbrev pub CentresRise : Type 0
CentresRise = (s : Span) (h : Heard) (budget k : ℕ) → Timed s → k ≤ windows_within budget s → Rising s.duration (estimates_before s h k)
