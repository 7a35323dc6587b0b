-- A key a turn.
use mathlib.Core.Path.{◌≡◌}
use Prim.Native.Nat.{ℕ, ◌-◌}
use Rattle.laws.specs.Turns.{turns}
use Rattle.key_choice.specs.Places.{placed, candidate_at, places_of}
use Rattle.key_choice.specs.declared.places.Places.{Places}
use Rattle.key_choice.proofs.places.find_places.Given as goal

abbrev pub invariant-loop-turn : goal.invariant-loop-turn
invariant-loop-turn l = turns (λ (t : ℕ) (p : Places). placed p (candidate_at l.scores t)) (24 - l.turn) l.turn l.places ≡ places_of l.scores
