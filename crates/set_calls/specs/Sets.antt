-- What `ulyptesh_add_card` and `ulyptesh_remove_card` promise, as one definition of what they are given. Definitions only.
use Rattle.std.specs.Prelude.{ℕ, Bool, not, List, [], ◌∷◌, eqb, ltb, length}
use Rattle.laws.specs.Table.{Check, ◌gives◌, first_of, any_of}
use Rattle.card_reader.specs.Reading.{Reading, refused, says}
use Rattle.laws.specs.Every.{same_numbers}
use Rattle.set_places.specs.Places.{places, place_size, set_size, read_whole, is_read, any_spoilt, in_place, lowest_with, placed}
use Rattle.set_totals.specs.Summary.{summary_of, numbers_of}
use Rattle.set_calls.specs.declared.SetChange.{SetChange}

-- a set as it is lent: the bytes of its places, and the numbers of its summary
pub record CardSet : Type 0 where
  pub bytes : List ℕ
  pub numbers : List ℕ

-- as a contract has it: what the references refer to
abbrev pub lent_set : List ℕ → List ℕ → CardSet
lent_set bytes numbers = record { bytes = bytes; numbers = numbers }

-- a set with its own summary
abbrev pub summed_set : List ℕ → CardSet
summed_set bytes = record { bytes = bytes; numbers = numbers_of (summary_of bytes) }

-- number 33: another size, a place that is spoilt, or numbers that are not the set's own summary
unfoldable pub untrue : CardSet → Bool
untrue s =
    any_of
    (not (eqb (length s.bytes) set_size)
    ∷ any_spoilt s.bytes
    ∷ not (same_numbers s.numbers (numbers_of (summary_of s.bytes)))
    ∷ [])

-- the number by which reading refuses a card
abbrev pub refusal_of : Reading → ℕ
refusal_of (refused number) = number
refusal_of (says m) = 0

-- the call's answer: the refusal's number, or 0, and which place was changed
abbrev pub set_change : ℕ → ℕ → SetChange
set_change refusal place = record { refusal = refusal; place = place }

-- what the call answers, and what it leaves in the lent set
pub record SetOutcome : Type 0 where
  pub answer : SetChange
  pub left : CardSet

-- both together
abbrev pub set_outcome : SetChange → CardSet → SetOutcome
set_outcome answer left = record { answer = answer; left = left }

-- a refusal changes nothing
abbrev pub unchanged : ℕ → CardSet → SetOutcome
unchanged refusal s = set_outcome (set_change refusal 0) s

-- the table from the top; last, `missing` where no place has what is looked for
abbrev pub set_table : ℕ → ℕ → List ℕ → CardSet → List (Check SetOutcome)
set_table missing place card s =
    (untrue s gives unchanged 33 s)
    ∷ (not (is_read (read_whole card)) gives unchanged (refusal_of (read_whole card)) s)
    ∷ (ltb place_size (length card) gives unchanged 30 s)
    ∷ (eqb place places gives unchanged missing s)
    ∷ []

-- where no row applies: the place has this content, and the numbers are those of the set as it then is
abbrev pub changed : ℕ → List ℕ → CardSet → SetOutcome
changed place content s = set_outcome (set_change 0 place) (summed_set (placed place content s.bytes))

-- the lowest place with one content gets another
unfoldable pub set_call : ℕ → List ℕ → List ℕ → List ℕ → CardSet → SetOutcome
set_call missing from to card s =
    let place = lowest_with from s.bytes in
    first_of (set_table missing place card s) (changed place to s)

-- a card goes into the lowest free place
abbrev pub add_call : List ℕ → CardSet → SetOutcome
add_call card = set_call 31 (in_place []) (in_place card) card

-- the lowest place with the card is freed
abbrev pub remove_call : List ℕ → CardSet → SetOutcome
remove_call card = set_call 32 (in_place card) (in_place []) card
