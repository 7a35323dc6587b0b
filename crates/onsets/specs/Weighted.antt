-- The medians of the weighted values, written from the loop over the bins in the Rust's `analyze`. Definitions only.
use Rattle.std.specs.Prelude.{ℕ, List, [], get_or, Float}
use Rattle.std.specs.Float.{nan, binary32}
use Rattle.std.specs.Float.Ieee.{mul}
use Rattle.laws.specs.Front.{list}
use Rattle.medians.specs.Median.{median_of}
use Rattle.onsets.specs.Onsets.{weight_at}

-- a bin's value in frame j, times the frame's onset weight
unfoldable pub weighted_at : List (List Float) → List Float → ℕ → ℕ → Float
weighted_at frames energies bin j = mul binary32 (get_or (get_or frames j []) bin nan) (weight_at energies j)

-- every bin's median over the first frames
unfoldable pub weighted_medians : List (List Float) → List Float → ℕ → List Float
weighted_medians frames energies count = list (λ (bin : ℕ). median_of (list (weighted_at frames energies bin) count)) 12
