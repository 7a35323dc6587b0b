-- The rows of the table that do not look for a place. No promise names it. Definitions only.
use Rattle.std.specs.Prelude.{ℕ, not, List, [], ◌∷◌, ltb, length, Result, Ok, Err, Option, None, Some}
use Rattle.laws.specs.Table.{Check, ◌gives◌, first_of}
use Rattle.card.specs.Layout.{most_segments}
use Rattle.card.specs.declared.layout.Layout.{Layout}
use Rattle.card_reader.specs.declared.judge.CardError.{CardError}
use Rattle.card_reader.specs.Reading.{refusal_number, judged_of}
use Rattle.set_places.specs.Places.{place_size, read_whole, is_read, lowest_with, found_place}
use Rattle.set_calls.specs.Sets.{CardSet, untrue, set_change}
use Rattle.set_calls.specs.declared.SetChange.{SetChange}
use Rattle.set_calls.specs.declared.SetError.{SetError}
use Rattle.set_calls.specs.declared.SetError.TheVariants.{UntrueSet, Unreadable, TooLong, FullSet, NotInSet}

-- the number by which a call is refused
abbrev pub set_refusal : SetError → ℕ
set_refusal UntrueSet = 33
set_refusal (Unreadable error) = refusal_number error
set_refusal TooLong = 30
set_refusal FullSet = 31
set_refusal NotInSet = 32

-- what a call answers, from the place that was changed or from why it is refused
abbrev pub change_of : Result ℕ SetError → SetChange
change_of (Ok place) = set_change 0 place
change_of (Err error) = set_change (set_refusal error) 0

-- a card as it was judged, for a set
abbrev pub judged_for_set : Result Layout CardError → Result Layout SetError
judged_for_set (Err error) = Err (Unreadable error)
judged_for_set (Ok l) = Ok l

-- they refuse the call, or leave the card as it was judged
abbrev pub accept_table : List ℕ → CardSet → List (Check (Result Layout SetError))
accept_table card s =
    (untrue s gives Err UntrueSet)
    ∷ (not (is_read (read_whole card)) gives judged_for_set (judged_of card most_segments))
    ∷ (ltb place_size (length card) gives Err TooLong)
    ∷ []

-- a refusal, or the layout of the card
unfoldable pub accepted_as : List ℕ → CardSet → Result Layout SetError
accepted_as card s = first_of (accept_table card s) (judged_for_set (judged_of card most_segments))

-- the place that was looked for, with the layout of the card
abbrev pub with_place : SetError → Option ℕ → Result Layout SetError → Result (Layout × ℕ) SetError
with_place missing place (Err error) = Err error
with_place missing None (Ok l) = Err missing
with_place missing (Some p) (Ok l) = Ok (l, p)

-- an accepted card's layout, and the lowest place with this content
unfoldable pub place_for : SetError → List ℕ → List ℕ → CardSet → Result (Layout × ℕ) SetError
place_for missing content card s = with_place missing (found_place (lowest_with content s.bytes)) (accepted_as card s)
