-- What stands in a sound place is its card with zeros behind it, so it is that card put there.
use Rattle.std.specs.Prelude.{Result, Ok, Err}
use mathlib.Core.Path.{◌≡◌, refl, sym, ap, subst, ◌∙◌}
use mathlib.Core.Bool.{Bool, true, false, not, ◌&&◌}
use mathlib.Core.List.{List, [], ◌++◌}
use mathlib.Core.Logic.{◌⊎◌, ◌↔◌, inl, inr}
use Prim.Native.Nat.{ℕ, ◌-◌, ◌≤◌}
use native.Mathlib.Omega.{arith}
use lib.Dec.{T}
use lib.ListN.{length, drop, replicate, length-take, length-drop, take-append-drop}
use Rattle.bits.specs.Bits.{bits_of_bytes}
use Rattle.card.specs.Layout.{most_segments}
use Rattle.card.specs.declared.layout.Layout.{Layout}
use Rattle.card_reader.specs.declared.judge.CardError.{CardError}
use Rattle.card_reader.specs.Reading.{judged_of, read_as}
use Rattle.set_places.specs.Places.{place_size, all_zero, length_on, card_in, read_whole, is_read, spoilt, in_place}
use Rattle.set_places.specs.Sound.{Holds, SoundPlaces}
use Rattle.set_places.proofs.Zeros.{zeros-are, in_place_lem, none-in-place}
use Rattle.set_places.proofs.InPlace.{card-in-place, sound-in-place, free-sound}

-- a card that a place holds reads under some layout
held-readable : (place card : List ℕ) → Holds place card → (l : Layout) × (judged_of card most_segments ≡ Ok l)
held-readable place card h = by_reading (judged_of card most_segments) refl
  where
    by_reading : (j : Result Layout CardError) → judged_of card most_segments ≡ j → (l : Layout) × (judged_of card most_segments ≡ Ok l)
    by_reading (Err error) e =
        let unread : true ≡ false = sym h.reads ∙ ap (λ (j : Result Layout CardError). is_read (read_as (bits_of_bytes card) j)) e in
        let z : ◌≡◌ {A = ℕ} 0 1 = cc unread in
        absurd (omega arith)
    by_reading (Ok l) e = (l, e)

held-sound : (place card : List ℕ) → Holds place card → spoilt place ≡ false
held-sound place card h = let r = held-readable place card h in ap spoilt h.there ∙ sound-in-place card r.0 h.fits r.1

held_found : (place card : List ℕ) → Holds place card → card_in place ≡ card
held_found place card h = let r = held-readable place card h in ap card_in h.there ∙ card-in-place card r.0 h.fits r.1

module _ (place : List ℕ) (size : length place ≡ place_size) where
  abbrev n : ℕ
  n = length_on place

  -- zeros behind the card at its front
  filled : T (all_zero (drop n place)) → place ≡ in_place (card_in place)
  filled zeros =
      let short : length (card_in place) ≤ place_size = omega (arith, length-take n place, size) in
      let left : length (drop n place) ≡ place_size - length (card_in place) = omega (arith, length-drop n place, length-take n place, size) in
      sym (take-append-drop n place) ∙ ap (λ (rest : List ℕ). card_in place ++ rest) (zeros-are (drop n place) zeros ∙ ap (λ (k : ℕ). replicate k 0) left) ∙ sym (in_place_lem (card_in place) short)

  free : T (all_zero place) → place ≡ in_place []
  free zeros = zeros-are place zeros ∙ ap (λ (k : ℕ). replicate k 0) size ∙ sym none-in-place

  sound-holds : spoilt place ≡ false → (place ≡ in_place []) ⊎ ((card : List ℕ) × Holds place card)
  unfolding spoilt
  sound-holds e = by_tests (all_zero place) (is_read (read_whole (card_in place))) (all_zero (drop n place)) refl refl refl e
    where
      by_tests : (zero read behind : Bool) → all_zero place ≡ zero → is_read (read_whole (card_in place)) ≡ read → all_zero (drop n place) ≡ behind → not zero && not (read && behind) ≡ false → (place ≡ in_place []) ⊎ ((card : List ℕ) × Holds place card)
      by_tests true read behind z r b t = inl (free (subst T (sym z) tt))
      by_tests false true true z r b t = inr (card_in place, record { reads = r; fits = omega (arith, length-take n place, size); there = filled (subst T (sym b) tt) })
      by_tests false true false z r b t = let z : ◌≡◌ {A = ℕ} 0 1 = cc in absurd (omega arith)
      by_tests false false behind z r b t = let z : ◌≡◌ {A = ℕ} 0 1 = cc in absurd (omega arith)

sound-exactly : (place : List ℕ) → length place ≡ place_size → (spoilt place ≡ false) ↔ ((place ≡ in_place []) ⊎ ((card : List ℕ) × Holds place card))
sound-exactly place size = (
  sound-holds place size,
  λ held. elim held [
    | inl free ↦ ap spoilt free ∙ free-sound
    | inr (card, h) ↦ held-sound place card h
  ],
)

pub sound-places : SoundPlaces
sound-places = record { sound = sound-exactly; found = held_found }
