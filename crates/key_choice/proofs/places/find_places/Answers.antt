-- A key a turn.
use mathlib.Core.Path.{ap, ◌∙◌}
use lib.Ieee.{of_bits, neg, div}
use Rattle.laws.proofs.Turns.{turns-start, turns-again, turns-end}
use Rattle.key_choice.specs.Places.{placed, places_of}
use Rattle.keys.specs.Numbers.{tonics}
use Rattle.key_choice.proofs.places.find_places.Goals as goal

pub loop-turn-init : goal.loop-turn-init
unfolding of_bits neg div places_of tonics
loop-turn-init c = turns-start _ _ _

pub loop-turn-preserved : goal.loop-turn-preserved
loop-turn-preserved c = turns-again _ 24 c.loop-turn.turn c.loop-turn.invariant c.loop-turn-test.true (c.enter-places.ensures ∙ ap (placed c.loop-turn.places) c.candidate.ensures)

pub returns : goal.returns
returns c = turns-end _ 24 c.loop-turn.turn c.loop-turn.invariant c.loop-turn-test.false
