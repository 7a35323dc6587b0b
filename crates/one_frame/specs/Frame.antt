-- One frame, written from the Rust's `frame_chroma_sequence`. Definitions only.
use Rattle.std.specs.Prelude.{ℕ, ◌+◌, ◌/◌, Bool, cond, ◌&&◌, List, pos, from_bits, slice_index_or, Float}
use Rattle.std.specs.Float.{nan, binary32}
use Rattle.std.specs.Float.Ieee.{of_int, add, mul, div, lt}
use Rattle.std.specs.Float.Ieee.Scale.{finite}
use Rattle.laws.specs.Every.{every_entry}
use Rattle.laws.specs.Turns.{turns}
use Rattle.laws.specs.Values.{minus_zero}
use Rattle.calls.specs.Call.{Call, seconds_at}
use Rattle.calls.specs.declared.Settings.{Settings}
use Rattle.goertzel.specs.Goertzel.{goertzel_of}
use Rattle.constant_q.specs.ConstantQ.{constant_q_of}
use Rattle.one_frame.specs.Blend.{blend_of}
use Rattle.one_frame.specs.declared.frame.Row.{Row}

-- a sample's square is added, unless the sample is not finite
unfoldable pub square_added : List Float → ℕ → ℕ → Float → Float
square_added samples start i e =
    let x = slice_index_or samples (start + i) nan in
    cond (finite x) (add binary32 e (mul binary32 x x)) e

-- the squares of a frame's finite samples, summed from -0, over the frame size
unfoldable pub frame_energy : List Float → ℕ → ℕ → Float
frame_energy samples start size = div binary32 (turns (square_added samples start) size 0 minus_zero) (of_int binary32 (pos size))

-- above 1e-8
unfoldable pub loud : Float → Bool
loud energy = lt (from_bits binary32 0x322b_cc77) energy

-- the middle of the frame that starts at start, as a sample
abbrev pub middle_of : Settings → ℕ → ℕ
middle_of s start = start + s.frame_size / 2

-- the row of a frame whose energy and two chromas are known
abbrev pub row_from : Settings → ℕ → Float → List Float → List Float → Row
row_from s start energy goertzel constant = record { centre = seconds_at s (middle_of s start); values = blend_of goertzel constant; energy = energy }

-- of a frame whose energy is known: Goertzel over it, and constant-Q around its middle
unfoldable pub row_of : Call → ℕ → Float → Row
row_of c start energy = row_from c.settings start energy (goertzel_of c.sheet c.samples start) (constant_q_of c.sheet c.samples (middle_of c.settings start))

-- the row's energy and its twelve values are finite
unfoldable pub whole : Row → Bool
whole r = finite r.energy && every_entry finite nan r.values
