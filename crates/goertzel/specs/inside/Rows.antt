-- Only for the code's own steps: no promise names it. Goertzel's rows as the code has them. Definitions only.
use Rattle.std.specs.Prelude.{ℕ, List, [], get_or, Float}
use Rattle.std.specs.Float.{nan}
use Rattle.calls.specs.Call.{Sheet}
use Rattle.calls.specs.inside.Parts.{sheet_of}
use Rattle.filters.specs.declared.resonator.GoertzelRow.{GoertzelRow}

-- the sheet of these rows alone: Goertzel reads nothing else of a sheet
abbrev pub goertzel_rows : ℕ → List Float → List Float → List Float → Sheet
goertzel_rows lowest window coefficients weights = sheet_of (record { rate = 0; minimum_midi_note = lowest; maximum_midi_note = 0; frame_size = 0 }) window coefficients weights [] [] []

-- the sheet's row for the lowest note plus k
abbrev pub row_at : List Float → List Float → ℕ → GoertzelRow
row_at coefficients weights k = record { coefficient = get_or coefficients k nan; weight = get_or weights k nan }
