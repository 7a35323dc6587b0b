-- The divisors for all energies of the profiles, and the correlations with the four profiles of a mode, summed at all roots together. No promise names it. Definitions only.
use Rattle.std.specs.Prelude.{ℕ, ◌+◌, ◌*◌, List, get_or, Float}
use Rattle.std.specs.Float.{nan}
use Rattle.laws.specs.Every.{any_below}
use Rattle.laws.specs.Turns.{turns}
use Rattle.laws.specs.Front.{list}
use Rattle.laws.specs.Values.{plus_zero}
use Rattle.numbers.specs.Sum.{added_each}
use Rattle.correlations.specs.Correlation.{mean_of}
use Rattle.correlations.specs.inside.Deviations.{wheel_of}
use Rattle.correlations.specs.inside.Divisors.{divisor_of}
use Rattle.correlations.specs.inside.Lanes.{alike, twelve, turned_of}
use Rattle.correlations.specs.declared.correlation.Divisor.{Divisor}
use Rattle.scores.specs.Profiles.{profile_at}
use Rattle.scores.specs.inside.Constants.{energies, place_at}
use Rattle.scores.specs.declared.scoring.Divisors.{Divisors}

-- the divisor for energy k, from the chroma's
abbrev pub divisor_for : Float → ℕ → Divisor
divisor_for chroma_energy k = divisor_of chroma_energy (get_or energies k nan)

-- all of them, and whether one is held up
unfoldable pub divisors_of : Float → Divisors
divisors_of chroma_energy =
    record {
      values = list (λ (k : ℕ). (divisor_for chroma_energy k).value) 17;
      held_up = any_below (λ (k : ℕ). (divisor_for chroma_energy k).held_up) 17;
    }

-- those of the profile in a row, by root
unfoldable pub divisors_at : List Float → ℕ → List Float
divisors_at divisors row = list (λ (root : ℕ). get_or divisors (place_at row root) nan) 12

-- the wheel of the profile in a row
abbrev pub wheel_at : ℕ → List Float
wheel_at row = wheel_of (profile_at row) (mean_of (profile_at row))

-- profile p of the mode
unfoldable pub mode_turn : List Float → List Float → ℕ → ℕ → List Float → List Float
mode_turn away divisors mode p sums = added_each sums (turned_of away (wheel_at (2 * p + mode)) (divisors_at divisors (2 * p + mode)))

-- twelve sums of nothing
abbrev pub no_mode_sums : List Float
no_mode_sums = twelve (alike plus_zero) (alike plus_zero) (alike plus_zero)

-- the correlations with the four profiles of a mode together, by root
unfoldable pub mode_sums : List Float → List Float → ℕ → List Float
mode_sums away divisors mode = turns (mode_turn away divisors mode) 4 0 no_mode_sums
