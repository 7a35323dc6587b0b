-- The bytes that are lent are the place.
use Rattle.std.proofs.Common.{ℕ, List, ap, ◌∙◌}
use Rattle.laws.specs.Every.{same_numbers}
use Rattle.set_places.specs.Places.{in_place}
use Rattle.set_places.proofs.Changed.{part-place}
use Rattle.set_places.proofs.places.place_holds.Goals as goal

pub returns : goal.returns
returns c = c.holds.ensures ∙ ap (λ (place : List ℕ). same_numbers place (in_place c.args.card.now)) (part-place c.args.set.now c.args.i)
