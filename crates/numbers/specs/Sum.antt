-- The sum of floats, as the Rust's `iter().sum()`: from -0, left to right, each sum rounded; and twelve sums side by side. Definitions only.
use Rattle.std.specs.Prelude.{ℕ, List, get_or, Float}
use Rattle.std.specs.Float.{nan, binary32}
use Rattle.std.specs.Float.Ieee.{add}
use Rattle.laws.specs.Values.{minus_zero}
use Rattle.laws.specs.Turns.{turns}
use Rattle.laws.specs.Front.{list}

-- of the first n values
unfoldable pub sum_of : ℕ → List Float → Float
sum_of n values = turns (λ (i : ℕ) (sum : Float). add binary32 sum (get_or values i nan)) n 0 minus_zero

-- twelve sums, each with one value more
unfoldable pub added_each : List Float → List Float → List Float
added_each sums more = list (λ (i : ℕ). add binary32 (get_or sums i nan) (get_or more i nan)) 12
