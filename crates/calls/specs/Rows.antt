-- What a call is lent to write: frame rows, as three slices side by side. Definitions only.
use Rattle.std.specs.Prelude.{ℕ, List, [], ◌∷◌, length, Float}
use Rattle.laws.specs.Front.{shortest}

-- a row is a frame's centre in seconds, its chroma and its energy
pub record Rows : Type 0 where
  pub centres : List Float
  pub values : List (List Float)
  pub energies : List Float

-- as a contract has it: what the references refer to
abbrev pub lent_rows : List Float → List (List Float) → List Float → Rows
lent_rows centres values energies = record { centres = centres; values = values; energies = energies }

-- how many rows there is room for
abbrev pub room_in : Rows → ℕ
room_in r = shortest (length r.centres) (length r.values ∷ length r.energies ∷ [])
