-- Sums by pitch class over the rows of a sheet, of which row k is for the lowest note plus k. Definitions only.
use Rattle.std.specs.Prelude.{ℕ, ◌+◌, ◌%◌, cond, List, length, get_or, set, replicate, Float}
use Rattle.std.specs.Float.{nan, binary32}
use Rattle.std.specs.Float.Ieee.{add, div, lt}
use Rattle.laws.specs.Front.{list}
use Rattle.laws.specs.Turns.{turns}
use Rattle.laws.specs.Values.{plus_zero, epsilon}

-- the pitch class of row k
abbrev pub class_at : ℕ → ℕ → ℕ
class_at lowest k = (lowest + k) % 12

-- before the first row
abbrev pub no_sums : List Float
no_sums = replicate 12 plus_zero

-- what row k adds to its class
unfoldable pub class_added : ℕ → ℕ → Float → List Float → List Float
class_added lowest k x sums = set sums (class_at lowest k) (add binary32 (get_or sums (class_at lowest k) nan) x)

-- what each of the first rows adds, in row order
unfoldable pub added_by_class : ℕ → (ℕ → Float) → ℕ → List Float
added_by_class lowest values rows = turns (λ (k : ℕ) (sums : List Float). class_added lowest k (values k) sums) rows 0 no_sums

-- the weights of each class's rows together
unfoldable pub weights_by_class : ℕ → List Float → List Float
weights_by_class lowest weights = added_by_class lowest (λ (k : ℕ). get_or weights k nan) (length weights)

-- over the weights, where those are above epsilon
unfoldable pub divided_value : Float → Float → Float
divided_value value weight = cond (lt epsilon weight) (div binary32 value weight) value

-- the Rust's `normalize_pitch_class_weights`: every class over the weights of its rows
unfoldable pub divided_by_class : List Float → List Float → List Float
divided_by_class values weights = list (λ (i : ℕ). divided_value (get_or values i nan) (get_or weights i nan)) 12
