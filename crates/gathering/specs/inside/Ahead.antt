-- Which frames a window need look at: none before its start, and where the centres rise none from its end on. No promise names it. Definitions only.
use Rattle.std.specs.Prelude.{ℕ, ◌-◌, ◌<◌, ◌≤◌, ◌≡◌, Bool, false, not, cond, List, get_or, Float}
use Rattle.std.specs.Float.{nan}
use Rattle.std.specs.Float.Ieee.{lt, le}
use Rattle.laws.specs.Every.{every_pair}
use Rattle.laws.specs.First.{first}
use Rattle.gathering.specs.Gather.{Heard}
use Rattle.gathering.specs.declared.ahead.Ahead.{Ahead}

-- no centre is below the one before it
abbrev pub rises : ℕ → List Float → Bool
rises frames centres = every_pair le nan centres frames

-- all frames are ahead
abbrev pub ahead_of : ℕ → List Float → Ahead
ahead_of frames centres = record { frames = frames; from = 0; rising = rises frames centres }

-- frame i is at the start or after it
abbrev pub is_from : List Float → Float → ℕ → Bool
is_from centres start i = le start (get_or centres i nan)

-- the first frame ahead that is, or behind all of them
unfoldable pub first_from : Ahead → Float → List Float → ℕ
first_from a start centres = first (is_from centres start) (a.frames - a.from) a.from

-- those before it are left behind
abbrev pub skipped_to : Ahead → Float → List Float → Ahead
skipped_to a start centres = record { frames = a.frames; from = first_from a start centres; rising = a.rising }

-- frame i is not below the end
abbrev pub is_past : List Float → Float → ℕ → Bool
is_past centres end i = not (lt (get_or centres i nan) end)

-- where the centres rise, the first frame ahead that is not; else behind all frames
unfoldable pub stop_of : Ahead → Float → List Float → ℕ
stop_of a end centres = cond a.rising (first (is_past centres end) (a.frames - a.from) a.from) a.frames

-- what is known of the frames ahead of a window: those left behind are before its start
pub record Known (h : Heard) (a : Ahead) (start : Float) : Type 0 where
  pub count : a.frames ≡ h.frames
  pub upto : a.from ≤ a.frames
  pub behind : (i : ℕ) → i < a.from → is_from h.centres start i ≡ false
  pub rising : a.rising ≡ rises h.frames h.centres
