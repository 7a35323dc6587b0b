-- What is read from a card's bytes: the request's table of refusals, or what the card says. Definitions only.
use Rattle.std.specs.Prelude.{ℕ, not, ◌&&◌, ◌||◌, List, [], ◌∷◌, eqb, ltb, length, Option, is_some, Result, Ok, Err}
use Rattle.laws.specs.Table.{Check, ◌gives◌, first_of}
use Rattle.bits.specs.Bits.{bits_of_bytes}
use Rattle.card.specs.Layout.{Meaning, layouts, numbered_in, layout_or1}
use Rattle.card.specs.Rules.{card_broken, needless}
use Rattle.card.specs.declared.layout.Layout.{Layout}
use Rattle.card_reader.specs.declared.judge.CardError.{CardError}
use Rattle.card_reader.specs.declared.judge.CardError.TheVariants.{WrongLength, UnknownLayout, BrokenRule, NeedlessLayout, TooFewRows}
use Rattle.card_form.specs.Form.{card_size, number_on, count_on, meaning_on, filler_set}

-- the number by which a card is refused
abbrev pub refusal_number : CardError → ℕ
refusal_number WrongLength = 20
refusal_number UnknownLayout = 21
refusal_number BrokenRule = 22
refusal_number NeedlessLayout = 23
refusal_number TooFewRows = 24

-- the layout that a card names
abbrev pub layout_on : List ℕ → Option Layout
layout_on bits = numbered_in layouts (number_on bits)

-- the table from the top, for bytes with these bits, and so many rows for segments
abbrev pub reading_table : List ℕ → List ℕ → Layout → ℕ → List (Check (Result Layout CardError))
reading_table bytes bits l rows =
    (ltb (length bytes) 7 gives Err WrongLength)
    ∷ ((is_some (layout_on bits) && not (eqb (length bytes) (card_size l (count_on l bits)))) gives Err WrongLength)
    ∷ (not (is_some (layout_on bits)) gives Err UnknownLayout)
    ∷ ((card_broken l (meaning_on l bits) || filler_set l bits) gives Err BrokenRule)
    ∷ (needless l (meaning_on l bits) gives Err NeedlessLayout)
    ∷ (ltb rows (count_on l bits) gives Err TooFewRows)
    ∷ []

-- the first row that applies refuses the card; where none does, it is readable under the layout that it names
unfoldable pub judged_of : List ℕ → ℕ → Result Layout CardError
judged_of bytes rows =
    let bits = bits_of_bytes bytes in
    let l = layout_or1 (layout_on bits) in
    first_of (reading_table bytes bits l rows) (Ok l)

-- what comes of a card: a refusal, or what it says
pub data Reading : Type 0 where
  refused : ℕ → Reading
  says : Meaning → Reading

-- what is read of bits that were judged so
abbrev pub read_as : List ℕ → Result Layout CardError → Reading
read_as bits (Err error) = refused (refusal_number error)
read_as bits (Ok l) = says (meaning_on l bits)

-- what is read from bytes, with so many rows for segments
abbrev pub read_of : List ℕ → ℕ → Reading
read_of bytes rows = read_as (bits_of_bytes bytes) (judged_of bytes rows)
