-- The array is written from the front, a divisor a turn, and each is asked; the code's energies are the definition's.
use mathlib.Core.Path.{◌≡◌}
use Prim.Native.Nat.{ℕ}
use lib.ListN.{get_or}
use lib.Ieee.{nan}
use Rattle.laws.specs.Every.{any_below}
use Rattle.laws.proofs.Front.{Filled}
use Rattle.correlations.specs.inside.Divisors.{divisor_of}
use Rattle.scores.proofs.scoring.divisors_for.Given as goal

abbrev pub invariant-loop-k : goal.invariant-loop-k
invariant-loop-k l =
    Filled (λ (j : ℕ). (divisor_of l.energy (get_or l.energies j nan)).value) l.initial.values l.values l.k
    × (l.held_up ≡ any_below (λ (j : ℕ). (divisor_of l.energy (get_or l.energies j nan)).held_up) l.k)
