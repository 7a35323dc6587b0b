-- One chroma of two, written from the Rust's `frame_chroma_sequence`. Definitions only.
use Rattle.std.specs.Prelude.{ℕ, cond, List, slice_index_or, Float}
use Rattle.std.specs.Float.{nan, binary32}
use Rattle.std.specs.Float.Ieee.{add, mul, lt}
use Rattle.laws.specs.Front.{list}
use Rattle.laws.specs.Values.{a_half, epsilon}
use Rattle.numbers.specs.Sum.{sum_of}
use Rattle.whitening.specs.Levels.{whitened_of, normalized_of}

-- whitened and normalised
unfoldable pub levelled : List Float → List Float
levelled chroma = normalized_of (whitened_of chroma)

-- half of each
unfoldable pub halves_of : List Float → List Float → List Float
halves_of a b = list (λ (i : ℕ). add binary32 (mul binary32 a_half (slice_index_or a i nan)) (mul binary32 a_half (slice_index_or b i nan))) 12

-- the first levelled; where the second sums to more than epsilon, half of each levelled, normalised
unfoldable pub blend_of : List Float → List Float → List Float
blend_of goertzel constant = cond (lt epsilon (sum_of 12 constant)) (normalized_of (halves_of (levelled goertzel) (levelled constant))) (levelled goertzel)
