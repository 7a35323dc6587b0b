-- The windows of a track in turn, and the estimates of those that are not silent, written from the Rust's `estimate_segments`. Definitions only.
use Rattle.std.specs.Prelude.{ℕ, zero, suc, Bool, cond, List, [], ◌∷◌, ◌++◌, ◌==◌, Float}
use Rattle.std.specs.Float.{binary64}
use Rattle.std.specs.Float.Ieee.{add}
use Rattle.laws.specs.Convert.{half}
use Rattle.windows.specs.Span.{start_of, windows_of}
use Rattle.gathering.specs.Gather.{Heard, gathered_of}
use Rattle.windows.specs.Estimates.{estimate_of}
use Rattle.windows.specs.declared.span.Span.{Span}
use Rattle.gathering.specs.declared.gather.Gathered.{Gathered}
use Rattle.timeline.specs.declared.estimate.Estimate.{Estimate}

-- what is gathered in the window that starts there
unfoldable pub gathered_from : Span → Heard → Float → Gathered
gathered_from s h start = gathered_of h start (add binary64 start s.window)

-- the estimate of that window, at its middle
unfoldable pub estimate_from : Span → Heard → Float → Estimate
estimate_from s h start = estimate_of (add binary64 start (half binary64 s.window)) (gathered_from s h start).chroma

-- a window without a frame gives no estimate
unfoldable pub silent : Span → Heard → Float → Bool
silent s h start = (gathered_from s h start).frames == 0

-- the estimates of the windows before window k
unfoldable pub estimates_before : Span → Heard → ℕ → List Estimate
estimates_before s h zero = []
estimates_before s h (suc k) = cond (silent s h (start_of s k)) (estimates_before s h k) (estimates_before s h k ++ (estimate_from s h (start_of s k) ∷ []))

-- the estimates of a track: of all its windows
abbrev pub estimates_of : Span → Heard → List Estimate
estimates_of s h = estimates_before s h (windows_of s)
