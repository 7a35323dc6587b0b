-- The Goertzel chroma of a frame, from the magnitudes of its rows, written from the Rust's `GoertzelTable` and `accumulate_chroma_windowed`. Definitions only.
use Rattle.std.specs.Prelude.{ℕ, ◌+◌, ◌-◌, min, cond, List, ltb, length, get_or, Float}
use Rattle.std.specs.Float.{nan, binary32}
use Rattle.std.specs.Float.Ieee.{of_bits, add, mul}
use Rattle.calls.specs.Call.{Sheet}
use Rattle.filters.specs.Classes.{added_by_class, weights_by_class, divided_by_class}
use Rattle.magnitudes.specs.Magnitudes.{magnitudes_of}

-- the row of the note that lies so far above row k's, and at 255 at most
abbrev pub harmonic_row : ℕ → ℕ → ℕ → ℕ
harmonic_row lowest k up = min (lowest + k + up) 255 - lowest

-- that row's magnitude times a factor more, where there is such a row
unfoldable pub harmonic_added : List Float → ℕ → ℕ → ℕ → Float → Float → Float
harmonic_added magnitudes lowest k up factor sum =
    cond (ltb (harmonic_row lowest k up) (length magnitudes)) (add binary32 sum (mul binary32 (get_or magnitudes (harmonic_row lowest k up) nan) factor)) sum

-- row k's magnitude and its harmonics' 12, 19 and 24 notes up, by 0.50, 0.33 and 0.25
unfoldable pub contribution_of : List Float → ℕ → ℕ → Float
contribution_of magnitudes lowest k =
    let second = harmonic_added magnitudes lowest k 12 (of_bits binary32 0x3f00_0000) (get_or magnitudes k nan) in
    let third = harmonic_added magnitudes lowest k 19 (of_bits binary32 0x3ea8_f5c3) second in
    harmonic_added magnitudes lowest k 24 (of_bits binary32 0x3e80_0000) third

-- each row's contribution times its weight, by class
unfoldable pub contributions_by_class : ℕ → List Float → List Float → List Float
contributions_by_class lowest magnitudes weights = added_by_class lowest (λ (k : ℕ). mul binary32 (contribution_of magnitudes lowest k) (get_or weights k nan)) (length magnitudes)

-- the chroma: each class's contributions over its weights
unfoldable pub goertzel_of : Sheet → List Float → ℕ → List Float
goertzel_of s samples start =
    let lowest = s.head.minimum_midi_note in
    divided_by_class (contributions_by_class lowest (magnitudes_of s.window s.goertzel_coefficients samples start) s.goertzel_weights) (weights_by_class lowest s.goertzel_weights)
