-- The window loop ends: with a hop of half a second at least each window starts after the one before it, window k at k / 2 or later, and so the windows are few. Statements only.
use Rattle.std.specs.Prelude.{◌≡◌, ℕ, ◌+◌, ◌^◌, ◌<◌, ◌≤◌, true, false, T}
use Rattle.std.specs.Float.{binary64}
use Rattle.std.specs.Float.Ieee.{lt, le}
use Rattle.laws.specs.Values.{Held}
use Rattle.laws.specs.Convert.{parts}
use Rattle.windows.specs.Span.{start_of, ends_at, budget_for, windows_within}
use Rattle.windows.specs.declared.span.Span.{Span}

-- what the checks leave: a window from 0 up, a hop of half a second at least, and a duration of so many seconds at most
pub record Spread (s : Span) (seconds : ℕ) : Type 0 where
  pub window : Held binary64 s.window
  pub half_second : T (le (parts binary64 1 1) s.hop)
  pub duration : T (le s.duration (parts binary64 0 seconds))
  pub exact : budget_for seconds < 2 ^ 53

-- start k is k / 2 at least
abbrev pub StartsSpread : Type 0
StartsSpread = (s : Span) (seconds k : ℕ) → Spread s seconds → k ≤ budget_for seconds → T (le (parts binary64 1 k) (start_of s k))

-- behind every window the start is larger: the Rust's loop does not stand still
abbrev pub StartsGrow : Type 0
StartsGrow = (s : Span) (seconds k : ℕ) → Spread s seconds → k < windows_within (budget_for seconds) s → T (lt (start_of s k) (start_of s (k + 1)))

-- the budget is never the reason to stop: the loop's own test ends it
abbrev pub BudgetSuffices : Type 0
BudgetSuffices = (s : Span) (seconds : ℕ) → Spread s seconds → ends_at s (windows_within (budget_for seconds) s) ≡ true

-- the Rust's loop makes so many passes: its test lets each of them begin and ends it behind the last, and after each the start is larger
pub record Passes (s : Span) (count : ℕ) : Type 0 where
  pub begins : (k : ℕ) → k < count → ends_at s k ≡ false
  pub ends : ends_at s count ≡ true
  pub grows : (k : ℕ) → k < count → T (lt (start_of s k) (start_of s (k + 1)))
