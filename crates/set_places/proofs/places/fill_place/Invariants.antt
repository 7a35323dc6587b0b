-- The card is written from the front of the place, a byte a turn.
use Rattle.std.proofs.Common.{ℕ, get_or}
use Rattle.laws.proofs.Front.{Filled}
use Rattle.set_places.proofs.places.fill_place.Given as goal

abbrev pub invariant-loop-k : goal.invariant-loop-k
invariant-loop-k l = Filled (λ (j : ℕ). get_or l.card j 0) l.initial.front l.front l.k
