-- Whitening and normalising, written from the Rust's `whiten_chroma` and `normalize_chroma`. Definitions only.
use Rattle.std.specs.Prelude.{ℕ, cond, List, get_or, Float}
use Rattle.std.specs.Float.{nan, binary32}
use Rattle.std.specs.Float.Ieee.{div, lt}
use Rattle.laws.specs.Front.{list}
use Rattle.laws.specs.Values.{plus_zero, epsilon}
use Rattle.numbers.specs.Sum.{sum_of}
use Rattle.roots.specs.Root.{root_of}

-- the square root of a value above 0; any other stays
unfoldable pub whitened : Float → Float
whitened x = cond (lt plus_zero x) (root_of x) x

-- whiten_chroma: every value by itself
unfoldable pub whitened_of : List Float → List Float
whitened_of chroma = list (λ (i : ℕ). whitened (get_or chroma i nan)) 12

-- every value over the total
unfoldable pub divided_by : List Float → Float → List Float
divided_by chroma total = list (λ (i : ℕ). div binary32 (get_or chroma i nan) total) 12

-- over the sum, where that is above epsilon
unfoldable pub normalized_of : List Float → List Float
normalized_of chroma = cond (lt epsilon (sum_of 12 chroma)) (divided_by chroma (sum_of 12 chroma)) chroma
