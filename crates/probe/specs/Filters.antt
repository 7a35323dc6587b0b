-- What the probes of the filters answer: the chroma where the lists lent are as the filters need them, and zeros elsewhere. Definitions only.
use Rattle.std.specs.Prelude.{ℕ, ◌+◌, Bool, true, false, cond, ◌&&◌, List, leb, eqb, length, Float}
use Rattle.sheets.specs.Sheet.{joined_length}
use Rattle.laws.specs.Front.{front}
use Rattle.filters.specs.Classes.{no_sums}
use Rattle.magnitudes.specs.Magnitudes.{magnitudes_of}
use Rattle.goertzel.specs.Goertzel.{goertzel_of}
use Rattle.goertzel.specs.inside.Rows.{goertzel_rows}
use Rattle.constant_q.specs.ConstantQ.{constant_q_of}
use Rattle.constant_q.specs.inside.Powers.{constant_q_rows}

-- so many values from a start on are there
abbrev pub reaches_to : ℕ → ℕ → ℕ → Bool
reaches_to start size samples = leb (start + size) samples

-- two lists of rows are equally long, and no more than 256
abbrev pub rows_fit : ℕ → ℕ → Bool
rows_fit rows others = eqb rows others && leb rows 256

-- so many rows are no more than 256, and have places
abbrev pub rows_held : ℕ → ℕ → Bool
rows_held rows places = leb rows 256 && leb rows places

-- what the probe of the magnitudes answers, and the room that it leaves
pub record MagnitudesOutcome : Type 0 where
  pub written : Bool
  pub room : List Float

-- both together
abbrev pub magnitudes_outcome : Bool → List Float → MagnitudesOutcome
magnitudes_outcome written room = record { written = written; room = room }

-- the magnitudes of a frame on the track in a room that suffices, whichever engine works them out
abbrev pub probed_magnitudes : List Float → List Float → List Float → ℕ → List Float → MagnitudesOutcome
probed_magnitudes window coefficients samples start room =
    cond (reaches_to start (length window) (length samples) && rows_held (length coefficients) (length room))
    (magnitudes_outcome true (front (magnitudes_of window coefficients samples start) room))
    (magnitudes_outcome false room)

-- the Goertzel chroma of a frame on the track
abbrev pub probed_goertzel : ℕ → List Float → List Float → List Float → List Float → ℕ → List Float
probed_goertzel lowest window coefficients weights samples start =
    cond (reaches_to start (length window) (length samples) && rows_fit (length coefficients) (length weights)) (goertzel_of (goertzel_rows lowest window coefficients weights) samples start) no_sums

-- the constant-Q chroma around a centre on the track
abbrev pub probed_constant_q : ℕ → List ℕ → List Float → List Float → List Float → ℕ → List Float
probed_constant_q lowest lengths coefficients windows samples centre =
    cond (leb centre (length samples) && rows_fit (length lengths) (length coefficients))
    (cond (eqb (joined_length lengths (length lengths)) (length windows)) (constant_q_of (constant_q_rows lowest lengths coefficients windows) samples centre) no_sums)
    no_sums
