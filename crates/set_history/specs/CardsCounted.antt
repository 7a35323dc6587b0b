-- The cards in a set are those that were put in and not taken out. The statement; proofs/CardsCounted.antt proves it.
use Rattle.std.specs.Prelude.{◌≡◌, Bool, true, false, cond, List, ℕ, ◌+◌, ◌≤◌, length}
use Rattle.laws.specs.Every.{same_numbers}
use Rattle.laws.specs.Sums.{sum_below}
use Rattle.set_places.specs.Places.{places, place_size, place_at, read_whole, is_read, in_place}
use Rattle.set_calls.specs.Sets.{CardSet}
use Rattle.set_history.specs.Calls.{SetCall, adding, removing, after_all, done_of}

-- how many places have a card
unfoldable pub copies : List ℕ → List ℕ → ℕ
copies card bytes = sum_below (λ (i : ℕ). cond (same_numbers (place_at bytes i) (in_place card)) 1 0) places

-- a call is for putting this card in
abbrev pub puts : List ℕ → SetCall → Bool
puts card (adding other) = same_numbers other card
puts card (removing other) = false

-- a call is for taking it out
abbrev pub takes : List ℕ → SetCall → Bool
takes card (adding other) = false
takes card (removing other) = same_numbers other card

-- of every card that reads and fits a place, over any calls, refused ones among them, on whatever was lent: as many places have it as had it before, and one more for each call that put it in, and one less for each that took it out
abbrev pub CardsCounted : Type 0
CardsCounted =
    (card : List ℕ) → is_read (read_whole card) ≡ true → length card ≤ place_size → (cs : List SetCall) (s : CardSet) →
    copies card (after_all cs s).bytes + done_of (takes card) cs s ≡ copies card s.bytes + done_of (puts card) cs s
