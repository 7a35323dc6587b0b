-- What a correlation's products are divided by. No promise names it. Definitions only.
use Rattle.std.specs.Prelude.{ℕ, List, Float}
use Rattle.std.specs.Float.{binary32}
use Rattle.std.specs.Float.Ieee.{mul}
use Rattle.laws.specs.Values.{epsilon}
use Rattle.laws.specs.Pick.{maximum_number}
use Rattle.roots.specs.Root.{root_of}
use Rattle.correlations.specs.Correlation.{deviation, rotated, summed, held_up}
use Rattle.correlations.specs.declared.correlation.Divisor.{Divisor}

-- the energy of a profile at a root: the sum of its squared deviations, in the order in which it is read there
unfoldable pub energy_at : List Float → Float → ℕ → Float
energy_at profile mean root = let b : ℕ → Float = λ (i : ℕ). deviation profile mean (rotated root i) in summed b b

-- the divisor of a root, and whether it is held up
abbrev pub held_root : Float → Divisor
held_root root = record { value = maximum_number root epsilon; held_up = held_up root }

-- that of the root of both energies' product
unfoldable pub divisor_of : Float → Float → Divisor
divisor_of chroma profile = held_root (root_of (mul binary32 chroma profile))
