-- A set of cards in lent bytes: its places, and what stands in one. Definitions only.
use Rattle.std.specs.Prelude.{ℕ, ◌*◌, cond, ltb, Option, None, Some, Bool, true, false, not, ◌&&◌, List, ◌++◌, eqb, take, drop, replicate}
use Rattle.laws.specs.First.{first}
use Rattle.laws.specs.Front.{front}
use Rattle.laws.specs.Every.{any_below, every_entry, same_numbers}
use Rattle.bits.specs.Bits.{bits_of_bytes}
use Rattle.card.specs.Layout.{most_segments, layout_or1}
use Rattle.card_form.specs.Form.{card_size, count_on}
use Rattle.card_reader.specs.Reading.{Reading, refused, says, layout_on, read_of}

-- how many places a set has
abbrev pub places : ℕ
places = 1_024

-- how many bytes a place has
abbrev pub place_size : ℕ
place_size = 512

-- how many bytes a set has
abbrev pub set_size : ℕ
set_size = places * place_size

-- the bytes of place i, of a set's
unfoldable pub place_at : List ℕ → ℕ → List ℕ
place_at bytes i = take place_size (drop (i * place_size) bytes)

-- only zeros
unfoldable pub all_zero : List ℕ → Bool
all_zero bytes = every_entry (λ (byte : ℕ). eqb byte 0) 0 bytes

-- ---- the card in a place
-- how many bytes the card at the front of others has: its layout and its count tell
unfoldable pub length_on : List ℕ → ℕ
length_on bytes = let bits = bits_of_bytes bytes in let l = layout_or1 (layout_on bits) in card_size l (count_on l bits)

-- the card at a place's front; where the place is too short for it, all its bytes, which then do not read
abbrev pub card_in : List ℕ → List ℕ
card_in place = take (length_on place) place

-- what is read of a card, with rows for any
abbrev pub read_whole : List ℕ → Reading
read_whole card = read_of card most_segments

-- it reads
abbrev pub is_read : Reading → Bool
is_read (refused number) = false
is_read (says m) = true

-- a place is neither free nor holds a card that reads and zeros behind it
unfoldable pub spoilt : List ℕ → Bool
spoilt place = not (all_zero place) && not (is_read (read_whole (card_in place)) && all_zero (drop (length_on place) place))

-- one of a set's places is
unfoldable pub any_spoilt : List ℕ → Bool
any_spoilt bytes = any_below (λ (i : ℕ). spoilt (place_at bytes i)) places

-- ---- places changed
-- a place with a card at its front and zeros behind it; of no bytes, a free place
unfoldable pub in_place : List ℕ → List ℕ
in_place card = front card (replicate place_size 0)

-- the lowest place with this content; where none has it, the number of places
unfoldable pub lowest_with : List ℕ → List ℕ → ℕ
lowest_with content bytes = first (λ (i : ℕ). same_numbers (place_at bytes i) content) places 0

-- a place that was looked for; the number of places stands for none
abbrev pub found_place : ℕ → Option ℕ
found_place place = cond (ltb place places) (Some place) None

-- a set's bytes once place i has this content
unfoldable pub placed : ℕ → List ℕ → List ℕ → List ℕ
placed i content bytes = take (i * place_size) bytes ++ (content ++ drop place_size (drop (i * place_size) bytes))
