-- What `ulyptesh_mend_card` promises, as one definition of what it is given. Definitions only.
use Rattle.std.specs.Prelude.{ℕ, not, ◌&&◌, List, [], ◌∷◌, eqb, ltb, length, is_some}
use Rattle.laws.specs.Front.{front}
use Rattle.laws.specs.Table.{Check, ◌gives◌, first_of}
use Rattle.numbers.specs.Flags.{one_if}
use Rattle.bits.specs.Bits.{bits_of_bytes}
use Rattle.card.specs.Layout.{layout_or1}
use Rattle.card.specs.declared.layout.Layout.{Layout}
use Rattle.card_form.specs.Form.{header_on, count_on}
use Rattle.card_reader.specs.Reading.{layout_on}
use Rattle.card_mender.specs.Mending.{has_no_key, key_broken, alternate_goes, kept_on, mended_card}
use Rattle.mend_call.specs.declared.CardMended.{CardMended}

-- the call's answer: the refusal's number, or 0; whether the alternate went; how many segments were kept, and how many the old count claimed; the mended card's length
abbrev pub card_mended : ℕ → ℕ → ℕ → ℕ → ℕ → CardMended
card_mended refusal went kept claimed size = record { refusal = refusal; alternate_went = went; kept = kept; claimed = claimed; length = size }

-- what the call answers, and what it leaves in the lent room
pub record MendOutcome : Type 0 where
  pub answer : CardMended
  pub room : List ℕ

-- both together
abbrev pub mend_outcome : CardMended → List ℕ → MendOutcome
mend_outcome answer room = record { answer = answer; room = room }

-- a refusal changes nothing
abbrev pub unmended : ℕ → List ℕ → MendOutcome
unmended number room = mend_outcome (card_mended number 0 0 0 0) room

-- the table from the top, for bytes that are read in a layout
abbrev pub mend_table : List ℕ → Layout → List ℕ → List (Check MendOutcome)
mend_table bytes l room =
    let bits = bits_of_bytes bytes in
    (ltb (length bytes) 7 gives unmended 40 room)
    ∷ (not (is_some (layout_on bits)) gives unmended 41 room)
    ∷ (key_broken l (header_on l bits) gives unmended 42 room)
    ∷ ((not (has_no_key (header_on l bits)) && eqb (kept_on l bytes) 0) gives unmended 43 room)
    ∷ (ltb (length room) (length (mended_card l bytes)) gives unmended 44 room)
    ∷ []

-- where no row applies: the mended card stands at the front of the room
abbrev pub mended : List ℕ → Layout → List ℕ → MendOutcome
mended bytes l room =
    let bits = bits_of_bytes bytes in
    let card = mended_card l bytes in
    mend_outcome (card_mended 0 (one_if (alternate_goes l (header_on l bits))) (kept_on l bytes) (count_on l bits) (length card)) (front card room)

-- what comes of bytes and a lent room
unfoldable pub mend_call : List ℕ → List ℕ → MendOutcome
mend_call bytes room =
    let l = layout_or1 (layout_on (bits_of_bytes bytes)) in
    first_of (mend_table bytes l room) (mended bytes l room)
