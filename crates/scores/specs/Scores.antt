-- The scores of the 24 keys, written from the Rust's `classify_key_impl`. Definitions only.
use Rattle.std.specs.Prelude.{ℕ, ◌+◌, ◌*◌, ◌/◌, ◌%◌, List, Float}
use Rattle.std.specs.Float.{binary32}
use Rattle.std.specs.Float.Ieee.{of_bits, add, div}
use Rattle.laws.specs.Turns.{turns}
use Rattle.laws.specs.Front.{list}
use Rattle.laws.specs.Values.{plus_zero}
use Rattle.scores.specs.Profiles.{profile_at}
use Rattle.correlations.specs.Correlation.{correlation_of}

-- profile p of the mode, 0 for major and 1 for minor
abbrev pub score_turn : List Float → ℕ → ℕ → ℕ → Float → Float
score_turn chroma mode root p sum = add binary32 sum (correlation_of chroma (profile_at (2 * p + mode)) root)

-- the mean of four correlations, summed from +0; 0x4080_0000 is 4
unfoldable pub score_of : List Float → ℕ → ℕ → Float
score_of chroma mode root = div binary32 (turns (score_turn chroma mode root) 4 0 plus_zero) (of_bits binary32 0x4080_0000)

-- the score of key number k
abbrev pub score_at : List Float → ℕ → Float
score_at chroma k = score_of chroma (k / 12) (k % 12)

-- the scores of the 24 keys, by key number
unfoldable pub scores_of : List Float → List Float
scores_of chroma = list (score_at chroma) 24
