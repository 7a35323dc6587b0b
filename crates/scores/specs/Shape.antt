-- Whether a chroma has no shape, which the request asks for and the Rust does not tell. Definitions only.
use Rattle.std.specs.Prelude.{ℕ, ◌+◌, ◌*◌, ◌/◌, ◌%◌, Bool, List, Float}
use Rattle.laws.specs.Every.{any_below}
use Rattle.scores.specs.Profiles.{profile_at}
use Rattle.correlations.specs.Correlation.{held_up_at}

-- one of the four correlations of key number k was held up: with profile p of its mode, at its root
unfoldable pub shapeless_at : List Float → ℕ → Bool
shapeless_at chroma k = any_below (λ (p : ℕ). held_up_at chroma (profile_at (2 * p + k / 12)) (k % 12)) 4

-- a chroma without a shape: one of the 96 correlations of all 24 keys was held up
unfoldable pub shapeless_of : List Float → Bool
shapeless_of chroma = any_below (shapeless_at chroma) 24
