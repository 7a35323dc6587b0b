-- What all correlations with twelve values share: their deviations from the mean, and the sum of the deviations' squares. No promise names it. Definitions only.
use Rattle.std.specs.Prelude.{ℕ, ◌-◌, ◌%◌, List, get_or, Float}
use Rattle.std.specs.Float.{nan, binary32}
use Rattle.std.specs.Float.Ieee.{add, mul}
use Rattle.laws.specs.Turns.{turns}
use Rattle.laws.specs.Front.{list}
use Rattle.laws.specs.Values.{plus_zero}
use Rattle.correlations.specs.Correlation.{deviation}

-- the deviations from a mean
unfoldable pub deviations_of : List Float → Float → List Float
deviations_of values mean = list (deviation values mean) 12

-- one more square
abbrev pub deviation_energy_turn : List Float → ℕ → Float → Float
deviation_energy_turn away i sum = add binary32 sum (mul binary32 (get_or away i nan) (get_or away i nan))

-- the sum of the deviations' squares, from +0
unfoldable pub deviation_energy : List Float → Float
deviation_energy away = turns (deviation_energy_turn away) 12 0 plus_zero

-- which deviation stands at j of the wheel
abbrev pub backward : ℕ → ℕ
backward j = (23 - j) % 12

-- the deviations downward, almost twice, so that every rotation stands in one piece
unfoldable pub wheel_of : List Float → Float → List Float
wheel_of values mean = list (λ (j : ℕ). get_or (deviations_of values mean) (backward j) nan) 23
