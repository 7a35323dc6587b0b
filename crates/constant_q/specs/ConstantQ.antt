-- The constant-Q chroma around a centre, written from the Rust's `CqtTable::chroma_at`. Definitions only.
use Rattle.std.specs.Prelude.{ℕ, ◌+◌, ◌-◌, ◌/◌, min, Bool, cond, not, List, length, get_or, pos, nat_lt, slice_index, slice_index_or, Float}
use Rattle.std.specs.Float.{nan, binary32}
use Rattle.std.specs.Float.Ieee.{of_int, mul, div}
use Rattle.laws.specs.Turns.{turns}
use Rattle.laws.specs.Pick.{maximum_number}
use Rattle.laws.specs.Values.{plus_zero}
use Rattle.calls.specs.Call.{Sheet}
use Rattle.sheets.specs.Sheet.{joined_length}
use Rattle.filters.specs.Resonator.{resonated, power_of}
use Rattle.filters.specs.Classes.{no_sums, class_added}

-- where a window of this size around the centre begins, at the track's start at the earliest
abbrev pub covered_from : ℕ → ℕ → ℕ
covered_from size centre = centre - size / 2

-- how many of the track's samples it covers
abbrev pub covered_count : ℕ → ℕ → ℕ → ℕ
covered_count size centre samples = min (covered_from size centre + size) samples - covered_from size centre

-- half of the window at least is left
unfoldable pub half_left : ℕ → ℕ → ℕ → Bool
half_left size centre samples = not (nat_lt (covered_count size centre samples) (size / 2))

-- a power over the square of the count; what is below 0 and a NaN count as 0
unfoldable pub per_count : ℕ → Float → Float
per_count count power = maximum_number (div binary32 power (mul binary32 (of_int binary32 (pos count)) (of_int binary32 (pos count)))) plus_zero

-- the power of row k: covered samples times window values, whatever the samples are; its window stands behind those of the rows before it
unfoldable pub row_power : Sheet → List Float → ℕ → ℕ → Float
row_power s samples centre k =
    let size = get_or s.constant_q_lengths k 0 in
    let coefficient = get_or s.constant_q_coefficients k nan in
    let value : ℕ → Float = λ (i : ℕ). mul binary32 (slice_index_or samples (covered_from size centre + i) nan) (slice_index_or s.constant_q_windows (joined_length s.constant_q_lengths k + i) nan) in
    let count = covered_count size centre (length samples) in
    per_count count (power_of coefficient (resonated coefficient value count))

-- it is added to the row's class; a row with under half of its window left is passed over
abbrev pub power_turn : Sheet → List Float → ℕ → ℕ → List Float → List Float
power_turn s samples centre k sums =
    cond (half_left (slice_index s.constant_q_lengths k) centre (length samples)) (class_added s.head.minimum_midi_note k (row_power s samples centre k) sums) sums

-- the chroma: every row in turn
unfoldable pub constant_q_of : Sheet → List Float → ℕ → List Float
constant_q_of s samples centre = turns (power_turn s samples centre) (length s.constant_q_lengths) 0 no_sums
