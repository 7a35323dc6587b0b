-- The loud frames of a window summed, written from the Rust's `estimate_segments`. Definitions only.
use Rattle.std.specs.Prelude.{ℕ, ◌+◌, ◌-◌, Bool, cond, ◌&&◌, List, [], get_or, replicate, Float}
use Rattle.std.specs.Float.{nan}
use Rattle.std.specs.Float.Ieee.{lt, le}
use Rattle.laws.specs.Turns.{turns}
use Rattle.laws.specs.Values.{plus_zero}
use Rattle.numbers.specs.Sum.{added_each}
use Rattle.gathering.specs.declared.gather.Gathered.{Gathered}

-- the loud frames: so many, each with its centre and its chroma
pub record Heard : Type 0 where
  pub frames : ℕ
  pub centres : List Float
  pub values : List (List Float)

-- the same, from its parts
abbrev pub heard : ℕ → List Float → List (List Float) → Heard
heard frames centres values = record { frames = frames; centres = centres; values = values }

-- start <= centre < end
abbrev pub in_window : Float → Float → Float → Bool
in_window start end centre = le start centre && lt centre end

-- the same of what is gathered, from its parts
abbrev pub gathered : List Float → ℕ → Gathered
gathered chroma frames = record { chroma = chroma; frames = frames }

-- one frame more
abbrev pub with_frame : List Float → Gathered → Gathered
with_frame values g = gathered (added_each g.chroma values) (g.frames + 1)

-- frame i counts where its centre is within
unfoldable pub gather_turn : Heard → Float → Float → ℕ → Gathered → Gathered
gather_turn h start end i g = cond (in_window start end (get_or h.centres i nan)) (with_frame (get_or h.values i []) g) g

-- nothing yet
abbrev pub none_gathered : Gathered
none_gathered = gathered (replicate 12 plus_zero) 0

-- the chromas of the frames within from `from` on, summed in order from +0, and how many they are
unfoldable pub gathered_after : Heard → ℕ → Float → Float → Gathered
gathered_after h from start end = turns (gather_turn h start end) (h.frames - from) from none_gathered

-- of all frames
abbrev pub gathered_of : Heard → Float → Float → Gathered
gathered_of h start end = gathered_after h 0 start end
