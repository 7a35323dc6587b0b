-- The search tests one place after the other.
use Rattle.std.proofs.Common.{rules, ◌≡◌, ℕ, Bool, List, true, false}
use Rattle.std.proofs.lemmas.Iterator.{first_from_Range}
use Rattle.laws.specs.Every.{same_numbers}
use Rattle.set_places.specs.Places.{place_at, in_place, lowest_with, found_place}
use Rattle.set_places.proofs.Found.{found-first}
use Rattle.set_places.proofs.places.find_place.Goals as goal

-- place i holds the card
abbrev holding : List ℕ → List ℕ → ℕ → Bool
holding set card i = same_numbers (place_at set i) (in_place card)

pub returns : goal.returns
unfolding lowest_with
returns c =
    let test = holding c.args.set.now c.args.card.now in
    found-first test c.find.result (first_from_Range _ _ _ c.find.result (λ x. test x ≡ true) (λ x. test x ≡ false) c.find.ensures.ran (λ x q k. search rules) (λ x q k. search rules))
