-- The estimates of the windows in lent rows, as the run over them leaves them. No promise names it. Definitions only.
use Rattle.std.specs.Prelude.{ℕ, ◌+◌, ◌≤◌, cond, T, length, Float}
use Rattle.laws.specs.Values.{clear}
use Rattle.gathering.specs.Gather.{Heard}
use Rattle.timeline.specs.Estimates.{EstimateRows, holding_estimates}
use Rattle.timeline.specs.inside.Estimates.{put_estimate}
use Rattle.windows.specs.Run.{estimate_from, silent, estimates_before}
use Rattle.windows.specs.declared.span.Span.{Span}

-- how many estimates there are after some windows, and the rows that hold them
pub record Written : Type 0 where
  pub count : ℕ
  pub rows : EstimateRows

-- both together
abbrev pub wrote : ℕ → EstimateRows → Written
wrote count rows = record { count = count; rows = rows }

-- the estimate of one window goes into place n
unfoldable pub window_written : Span → Heard → Float → ℕ → EstimateRows → Written
window_written s h start n before = cond (silent s h start) (wrote n before) (wrote (n + 1) (put_estimate (estimate_from s h start) n before))

-- the estimates of so many windows stand in the rows
unfoldable pub windows_written : Span → Heard → ℕ → EstimateRows → Written
windows_written s h windows before = let found = estimates_before s h windows in wrote (length found) (holding_estimates found before)

-- what a run needs: a hop that does not go back, frames that are there, and room for an estimate to each window
pub record Ready (s : Span) (h : Heard) (before : EstimateRows) (windows : ℕ) : Type 0 where
  pub onward : T (clear s.hop)
  pub timed : h.frames ≤ length h.centres
  pub valued : h.frames ≤ length h.values
  pub centres : windows ≤ length before.centres
  pub keys : windows ≤ length before.keys
  pub confidences : windows ≤ length before.confidences
  pub shapeless : windows ≤ length before.shapeless
