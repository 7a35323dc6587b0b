-- The time that windows run over and where each starts, written from the Rust's `analyze` and `estimate_segments`. Definitions only.
use Rattle.std.specs.Prelude.{ℕ, ◌+◌, ◌*◌, max, Bool, cond, not, Float}
use Rattle.std.specs.Float.{binary64}
use Rattle.std.specs.Float.Ieee.{add, lt, le}
use Rattle.laws.specs.Turns.{turns}
use Rattle.laws.specs.First.{first}
use Rattle.laws.specs.Values.{plus_zero}
use Rattle.calls.specs.Call.{seconds_at, longest_track}
use Rattle.calls.specs.declared.Settings.{Settings}
use Rattle.windows.specs.declared.span.Span.{Span}

-- window and hop of the settings, and the samples over the rate
unfoldable pub span_of : Settings → ℕ → Span
span_of s count = record { window = s.local_window_seconds; hop = s.local_hop_seconds; duration = seconds_at s count }

-- shorter than a window and a hop: such a track is not cut into windows
unfoldable pub brief : Span → Bool
brief s = lt s.duration (add binary64 s.window s.hop)

-- the start of window k: the hop added k times to +0
unfoldable pub start_of : Span → ℕ → Float
start_of s k = turns (λ (_ : ℕ) (start : Float). add binary64 start s.hop) k 0 plus_zero

-- the window that starts there ends after the duration
abbrev pub overhangs : Span → Float → Bool
overhangs s start = not (le (add binary64 start s.window) s.duration)

-- the Rust's loop ends before window k
unfoldable pub ends_at : Span → ℕ → Bool
ends_at s k = overhangs s (start_of s k)

-- passes that suffice for a duration of so many seconds: two windows a second, and one more
abbrev pub budget_for : ℕ → ℕ
budget_for seconds = 2 * seconds + 1

-- how many windows there are, no more than the budget
unfoldable pub windows_within : ℕ → Span → ℕ
windows_within budget s = first (ends_at s) budget 0

-- how many windows a track is cut into
unfoldable pub windows_of : Span → ℕ
windows_of s = cond (brief s) 0 (windows_within (budget_for longest_track) s)

-- 01's W: the rows that estimates and segments may take, one at least
unfoldable pub rows_asked : Span → ℕ
rows_asked s = max 1 (windows_of s)
