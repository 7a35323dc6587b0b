-- A place by what was found in it: free, with bytes that do not read, or with a card.
use Rattle.std.specs.Prelude.{Result, Ok, Err}
use mathlib.Core.Path.{◌≡◌, refl, sym, ap, ap₂, subst, ◌∙◌}
use mathlib.Core.Bool.{Bool, true, false, not, ◌&&◌}
use mathlib.Core.List.{List}
use mathlib.Core.Logic.{inl, inr}
use Prim.Native.Nat.{ℕ, min, ◌≤◌}
use native.Mathlib.Omega.{arith}
use lib.Dec.{T}
use lib.ListN.{length, take, drop, replicate, drop_of_length-le}
use lib.Seq.{take_all}
use Rattle.laws.proofs.Cases.{lt-or-ge}
use Rattle.bits.specs.Bits.{bits_of_bytes}
use Rattle.card.specs.Layout.{most_segments}
use Rattle.card.specs.declared.layout.Layout.{Layout}
use Rattle.card_form.specs.Form.{meaning_on}
use Rattle.card_reader.specs.declared.judge.CardError.{CardError}
use Rattle.card_reader.specs.Reading.{judged_of, read_as}
use Rattle.set_places.specs.Places.{all_zero, length_on, card_in, read_whole, is_read, spoilt}
use Rattle.set_places.proofs.Zeros.{zeros-are}
use Rattle.set_totals.specs.inside.Numbers.{summary_numbers, card_number, read_number, more}
use Rattle.set_totals.proofs.Numbers.{more-none, more_same}
use Rattle.set_totals.proofs.Readings.{zeros-unread, unread-none}

-- ---- where a card ends that may be longer than its place
pub take_min : (n : ℕ) (xs : List ℕ) → take (min n (length xs)) xs ≡ take n xs
take_min n xs =
    elim (lt-or-ge n (length xs)) [
      | inl h ↦ let same : min n (length xs) ≡ n = omega (arith, h) in ap (λ (k : ℕ). take k xs) same
      | inr h ↦ let all : min n (length xs) ≡ length xs = omega (arith, h) in take_all (min n (length xs)) xs (omega (arith, all)) ∙ sym (take_all n xs h)
    ]

pub drop_min : (n : ℕ) (xs : List ℕ) → drop (min n (length xs)) xs ≡ drop n xs
drop_min n xs =
    elim (lt-or-ge n (length xs)) [
      | inl h ↦ let same : min n (length xs) ≡ n = omega (arith, h) in ap (λ (k : ℕ). drop k xs) same
      | inr h ↦ let all : min n (length xs) ≡ length xs = omega (arith, h) in let far : length xs ≤ min n (length xs) = omega (arith, all) in drop_of_length-le xs far ∙ sym (drop_of_length-le xs h)
    ]

module _ (place : List ℕ) where
  -- the card at its front, and what is read of it
  abbrev card : List ℕ
  card = card_in place

  abbrev behind : Bool
  behind = all_zero (drop (length_on place) place)

  -- a place by two of its tests
  tested : {zero read : Bool} → all_zero place ≡ zero → is_read (read_whole card) ≡ read → not zero && not (read && behind) ≡ spoilt place
  unfolding spoilt
  tested z r = sym (ap₂ (λ (a b : Bool). not a && not (b && behind)) z r)

  -- ---- free
  pub free-is : all_zero place ≡ true → false ≡ spoilt place
  free-is z = tested z refl

  pub free-adds : all_zero place ≡ true → (numbers : List ℕ) → length numbers ≡ summary_numbers → numbers ≡ more (read_number (read_whole card)) numbers
  free-adds z numbers size =
      let zeros : place ≡ replicate (length place) 0 = zeros-are place (subst T (sym z) tt) in
      let unread : is_read (read_whole card) ≡ false = ap (λ (bytes : List ℕ). is_read (read_whole (take (length_on place) bytes))) zeros ∙ zeros-unread (length_on place) (length place) in
      sym (more-none (read_number (read_whole card)) numbers size (λ k h. unread-none (read_whole card) k unread))

  -- ---- not free, by how its front is judged
  module _ (z : all_zero place ≡ false) where
    pub refused-is : {error : CardError} → judged_of card most_segments ≡ Err error → true ≡ spoilt place
    refused-is e = tested z (ap (λ (j : Result Layout CardError). is_read (read_as (bits_of_bytes card) j)) e)

    pub refused-adds : {error : CardError} → judged_of card most_segments ≡ Err error → (numbers : List ℕ) → length numbers ≡ summary_numbers → numbers ≡ more (read_number (read_whole card)) numbers
    refused-adds e numbers size =
        sym (more-none (read_number (read_whole card)) numbers size (λ k h. ap (λ (j : Result Layout CardError). read_number (read_as (bits_of_bytes card) j) k) e))

    pub read_is : {l : Layout} → judged_of card most_segments ≡ Ok l → not behind ≡ spoilt place
    read_is e = tested z (ap (λ (j : Result Layout CardError). is_read (read_as (bits_of_bytes card) j)) e)

    pub read-adds : {l : Layout} → judged_of card most_segments ≡ Ok l → (numbers : List ℕ) → more (card_number (meaning_on l (bits_of_bytes card))) numbers ≡ more (read_number (read_whole card)) numbers
    read-adds {l} e numbers = more_same (card_number (meaning_on l (bits_of_bytes card))) (read_number (read_whole card)) numbers (λ k h. ap (λ (j : Result Layout CardError). read_number (read_as (bits_of_bytes card) j) k) (sym e))
