-- The magnitudes that a frame's notes have, written from the Rust's `goertzel_power_prewindowed` and `accumulate_chroma_windowed`. Definitions only.
use Rattle.std.specs.Prelude.{ℕ, ◌+◌, List, length, get_or, Float}
use Rattle.std.specs.Float.{nan}
use Rattle.laws.specs.Front.{list}
use Rattle.laws.specs.Pick.{maximum_number}
use Rattle.laws.specs.Values.{plus_zero}
use Rattle.roots.specs.Root.{root_of}
use Rattle.filters.specs.Resonator.{windowed_of, resonated, power_of}
use Rattle.filters.specs.declared.resonator.Delay.{Delay}

-- value i of the frame that starts at start
abbrev pub frame_value : List Float → List Float → ℕ → ℕ → Float
frame_value window samples start i = windowed_of (get_or samples (start + i) nan) (get_or window i nan)

-- the power that a resonator ends with; one below 0 and a NaN count as 0
unfoldable pub last_power : Float → Delay → Float
last_power coefficient d = maximum_number (power_of coefficient d) plus_zero

-- its square root
abbrev pub last_magnitude : Float → Delay → Float
last_magnitude coefficient d = root_of (last_power coefficient d)

-- the magnitude of row k, from its resonator after the whole frame
unfoldable pub row_magnitude : List Float → List Float → List Float → ℕ → ℕ → Float
row_magnitude window coefficients samples start k =
    let coefficient = get_or coefficients k nan in
    last_magnitude coefficient (resonated coefficient (frame_value window samples start) (length window))

-- of all rows
unfoldable pub magnitudes_of : List Float → List Float → List Float → ℕ → List Float
magnitudes_of window coefficients samples start = list (row_magnitude window coefficients samples start) (length coefficients)
