-- A place's content exchanged: each number grows by what the new content gives, and loses what the old one gave.
use Rattle.std.specs.Prelude.{Result, Ok}
use mathlib.Core.Path.{◌≡◌, sym, ap, subst, ◌∙◌}
use mathlib.Core.List.{List, []}
use Prim.Native.Nat.{ℕ, ◌+◌, ◌<◌, ◌≤◌}
use native.Mathlib.Omega.{arith}
use lib.ListN.{length, get_or, take}
use Rattle.laws.proofs.Front.{list_same, length-list, get_or-list}
use Rattle.bits.specs.Bits.{bits_of_bytes}
use Rattle.card.specs.Layout.{Meaning, most_segments}
use Rattle.card.specs.declared.layout.Layout.{Layout}
use Rattle.card_form.specs.Form.{meaning_on}
use Rattle.card_reader.specs.declared.judge.CardError.{CardError}
use Rattle.card_reader.specs.Reading.{judged_of, read_as}
use Rattle.set_places.specs.Places.{places, place_size, set_size, place_at, length_on, card_in, read_whole, is_read, in_place, placed}
use Rattle.laws.proofs.Sums.{sum-changed, term-within}
use Rattle.set_places.proofs.Zeros.{length-in-place, none-in-place}
use Rattle.set_places.proofs.Changed.{place_same, place_other}
use Rattle.set_places.proofs.InPlace.{card-in-place}
use Rattle.set_totals.specs.Summary.{summary_of, numbers_of}
use Rattle.set_totals.specs.inside.Numbers.{summary_numbers, card_number, read_number, more, less, CanAdd, CanTake}
use Rattle.set_totals.proofs.Readings.{zeros-unread, unread-none}
use Rattle.set_totals.proofs.Tallied.{place_number, sum_over, numbers-are, tallied-can}

-- what a free place gives, and one with a card
pub free-gives : (k : ℕ) → read_number (read_whole (card_in (in_place []))) k ≡ 0
free-gives k = unread-none (read_whole (card_in (in_place []))) k (ap (λ (bytes : List ℕ). is_read (read_whole (take (length_on (in_place [])) bytes))) none-in-place ∙ zeros-unread (length_on (in_place [])) place_size)

pub card-gives : (card : List ℕ) (l : Layout) → length card ≤ place_size → judged_of card most_segments ≡ Ok l → (k : ℕ) → read_number (read_whole (card_in (in_place card))) k ≡ card_number (meaning_on l (bits_of_bytes card)) k
card-gives card l fits readable k =
    ap (λ (bytes : List ℕ). read_number (read_whole bytes) k) (card-in-place card l fits readable)
    ∙ ap (λ (j : Result Layout CardError). read_number (read_as (bits_of_bytes card) j) k) readable

-- ---- a set whose place i has one content, and then another
module _ (set : List ℕ) (i : ℕ) (whole : length set ≡ set_size) (inside : i < places) where
  exchanged : (content : List ℕ) → length content ≡ place_size → (k : ℕ) → sum_over (placed i content set) places k + read_number (read_whole (card_in (place_at set i))) k ≡ sum_over set places k + read_number (read_whole (card_in content)) k
  exchanged content size k =
      sum-changed (place_number (placed i content set) k) (place_number set k) places i inside
      (λ j other. ap (λ (bytes : List ℕ). read_number (read_whole (card_in bytes)) k) (place_other set i whole inside content size j other))
      ∙ ap (λ (bytes : List ℕ). sum_over set places k + read_number (read_whole (card_in bytes)) k) (place_same set i whole inside content size)

  module _ (card : List ℕ) (l : Layout) (fits : length card ≤ place_size) (readable : judged_of card most_segments ≡ Ok l) where
    abbrev m : Meaning
    m = meaning_on l (bits_of_bytes card)

    -- a card taken in
    pub numbers-added : place_at set i ≡ in_place [] → more (card_number m) (numbers_of (summary_of set)) ≡ numbers_of (summary_of (placed i (in_place card) set))
    unfolding more
    numbers-added free =
        ap (λ (xs : List ℕ). more (card_number m) xs) (numbers-are set)
        ∙ list_same _ (sum_over (placed i (in_place card) set) places) summary_numbers
        (λ k h.
        let here = get_or-list (sum_over set places) summary_numbers k 0 h in
        let sums = exchanged (in_place card) (length-in-place card fits) k in
        let before = ap (λ (bytes : List ℕ). read_number (read_whole (card_in bytes)) k) free ∙ free-gives k in
        let after = card-gives card l fits readable k in
        omega (arith, here, sums, before, after))
        ∙ sym (numbers-are (placed i (in_place card) set))

    -- a card taken out
    pub numbers-taken : place_at set i ≡ in_place card → less (card_number m) (numbers_of (summary_of set)) ≡ numbers_of (summary_of (placed i (in_place []) set))
    unfolding less
    numbers-taken held =
        ap (λ (xs : List ℕ). less (card_number m) xs) (numbers-are set)
        ∙ list_same _ (sum_over (placed i (in_place []) set) places) summary_numbers
        (λ k h.
        let here = get_or-list (sum_over set places) summary_numbers k 0 h in
        let sums = exchanged (in_place []) (length-in-place [] (omega arith)) k in
        let before = ap (λ (bytes : List ℕ). read_number (read_whole (card_in bytes)) k) held ∙ card-gives card l fits readable k in
        let after = free-gives k in
        omega (arith, here, sums, before, after))
        ∙ sym (numbers-are (placed i (in_place []) set))

    -- which the numbers allow
    pub own-can-take : place_at set i ≡ in_place card → CanTake (card_number m) (numbers_of (summary_of set))
    own-can-take held =
        record {
          size = ap length (numbers-are set) ∙ length-list (sum_over set places) summary_numbers;
          enough = λ k h.
              let here = ap (λ (xs : List ℕ). get_or xs k 0) (numbers-are set) ∙ get_or-list (sum_over set places) summary_numbers k 0 h in
              let own = ap (λ (bytes : List ℕ). read_number (read_whole (card_in bytes)) k) held ∙ card-gives card l fits readable k in
              omega (arith, here, own, term-within (place_number set k) places i inside);
        }

-- a set's own numbers allow one card more
pub own-can-add : (set : List ℕ) → CanAdd (numbers_of (summary_of set))
own-can-add set = subst CanAdd (sym (numbers-are set)) (tallied-can set places (omega arith))
