-- A place is not spoilt exactly where it is as the calls leave it. The statement; proofs/Sound.antt proves it.
use Rattle.std.specs.Prelude.{◌≡◌, true, false, List, [], ◌⊎◌, ◌↔◌, ℕ, ◌≤◌, length}
use Rattle.set_places.specs.Places.{place_size, card_in, read_whole, is_read, spoilt, in_place}

-- a place holds this card, which reads
pub record Holds (place card : List ℕ) : Type 0 where
  pub reads : is_read (read_whole card) ≡ true
  pub fits : length card ≤ place_size
  pub there : place ≡ in_place card

-- it is not spoilt exactly where it is free or holds a card; and the card that it holds is the one that is read there
pub record SoundPlaces : Type 0 where
  pub sound : (place : List ℕ) → length place ≡ place_size → (spoilt place ≡ false) ↔ ((place ≡ in_place []) ⊎ ((card : List ℕ) × Holds place card))
  pub found : (place card : List ℕ) → Holds place card → card_in place ≡ card
