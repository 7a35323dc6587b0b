-- The tuning of a track, written from the Rust's `estimate_tuning`. Definitions only.
use Rattle.std.specs.Prelude.{ℕ, ◌+◌, ◌%◌, Bool, cond, ◌&&◌, List, [], from_bits, slice_index_or, Float}
use Rattle.std.specs.Float.{nan, binary32}
use Rattle.std.specs.Float.Ieee.{add, sub, mul, div, lt}
use Rattle.laws.specs.Turns.{turns}
use Rattle.laws.specs.Values.{plus_zero, two, epsilon}
use Rattle.laws.specs.Pick.{clamped_to}
use Rattle.chroma.specs.declared.tuning.Peaks.{Peaks}

-- twice the height less both neighbours
abbrev pub bend_of : Float → Float → Float → Float
bend_of before height after = sub binary32 (sub binary32 (mul binary32 two height) before) after

-- above both neighbours and above epsilon, and not flat
abbrev pub is_peak : Float → Float → Float → Bool
is_peak before height after = lt before height && lt after height && lt epsilon height && lt epsilon (bend_of before height after)

-- where the peak lies beside its bin: 0.5 * (after - before) / bend
abbrev pub offset_of : Float → Float → Float → Float
offset_of before height after = div binary32 (mul binary32 (from_bits binary32 0x3f00_0000) (sub binary32 after before)) (bend_of before height after)

-- one bin more: a peak adds its height, and its offset times its height
unfoldable pub peak_added : Peaks → Float → Float → Float → Peaks
peak_added s before height after =
    cond (is_peak before height after) (record { heights = add binary32 s.heights height; offsets = add binary32 s.offsets (mul binary32 (offset_of before height after) height) }) s

-- a bin with its neighbours around the circle
abbrev pub bin_added : List Float → ℕ → Peaks → Peaks
bin_added values bin s = peak_added s (slice_index_or values ((bin + 11) % 12) nan) (slice_index_or values bin nan) (slice_index_or values ((bin + 1) % 12) nan)

-- the twelve bins of a frame more, from C up
unfoldable pub frame_added : List Float → Peaks → Peaks
frame_added values s = turns (bin_added values) 12 0 s

-- frame j more
abbrev pub frames_added : List (List Float) → ℕ → Peaks → Peaks
frames_added frames j s = frame_added (slice_index_or frames j []) s

-- held to half a bin either way, and 0 without peaks
unfoldable pub mean_offset : Peaks → Float
mean_offset s = cond (lt epsilon s.heights) (clamped_to (from_bits binary32 0xbf00_0000) (from_bits binary32 0x3f00_0000) (div binary32 s.offsets s.heights)) plus_zero

-- before the first frame
abbrev pub no_peaks : Peaks
no_peaks = record { heights = plus_zero; offsets = plus_zero }

-- over the first frames
unfoldable pub tuning_of : List (List Float) → ℕ → Float
tuning_of frames count = mean_offset (turns (frames_added frames) count 0 no_peaks)
