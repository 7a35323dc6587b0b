-- Where one window's group ends and the next one's begins, written from the Rust's `estimate_segments`. Definitions only.
use Rattle.std.specs.Prelude.{Bool, not, ◌&&◌, Float}
use Rattle.std.specs.Float.{binary64}
use Rattle.std.specs.Float.Ieee.{le}
use Rattle.laws.specs.Convert.{midpoint}
use Rattle.keys.specs.Numbers.{same_key}
use Rattle.timeline.specs.declared.estimate.Estimate.{Estimate}

-- a window starts a group: its key is another than that of the window before, and its confidence is at or above the threshold
unfoldable pub splits : Float → Estimate → Estimate → Bool
splits threshold before e = not (same_key e.key before.key) && le threshold e.confidence

-- the border between two windows: midway between their centres
unfoldable pub border_of : Estimate → Estimate → Float
border_of before e = midpoint binary64 before.centre e.centre
