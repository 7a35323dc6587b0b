-- The array is written from the front, a divisor a turn; the code's places are the definition's.
use Prim.Native.Nat.{ℕ}
use lib.ListN.{get_or}
use lib.Ieee.{nan}
use Rattle.laws.proofs.Front.{Filled}
use Rattle.scores.proofs.scoring.divisors_at.Given as goal

abbrev pub invariant-loop-root : goal.invariant-loop-root
invariant-loop-root l = Filled (λ (r : ℕ). get_or l.divisors (get_or l.places r 0) nan) l.initial.at_roots l.at_roots l.root
