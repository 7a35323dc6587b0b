-- What the lister prints of a card. Definitions only.
use Rattle.std.specs.Prelude.{ℕ, ◌+◌, ◌*◌, cond, List, [], ◌∷◌, ◌++◌, eqb, length}
use Rattle.card.specs.Layout.{Meaning, most_segments}
use Rattle.card.specs.Rules.{no_key, card_segment, start_at}
use Rattle.card.specs.declared.layout.Segment.{Segment}
use Rattle.card_reader.specs.Reading.{Reading, refused, says, read_of}
use Rattle.listing.specs.Lines.{newline, number_then, key_line, line_of, lines_of}

-- the line of segment i
abbrev pub segment_line : List Segment → ℕ → List ℕ
segment_line ss i = line_of (start_at ss i) (card_segment ss i).end (card_segment ss i).key

-- a line for each segment
abbrev pub segment_lines : List Segment → List ℕ
segment_lines ss = lines_of (segment_line ss) (length ss)

-- "refused "
abbrev pub refused_word : List ℕ
refused_word = 114 ∷ 101 ∷ 102 ∷ 117 ∷ 115 ∷ 101 ∷ 100 ∷ 32 ∷ []

-- "no key", on a line
abbrev pub no_key_line : List ℕ
no_key_line = 110 ∷ 111 ∷ 32 ∷ 107 ∷ 101 ∷ 121 ∷ newline ∷ []

-- a refusal's line
unfoldable pub refusal_line : ℕ → List ℕ
refusal_line number = refused_word ++ number_then number newline

-- the lines of what a card says: its key, and its segments; without a key one line says so
unfoldable pub card_lines : Meaning → List ℕ
card_lines m =
    let key = m.header.key in
    cond (eqb key no_key) no_key_line (key_line key ++ segment_lines m.segments)

-- the lines of what was read
abbrev pub listed : Reading → List ℕ
listed (refused number) = refusal_line number
listed (says m) = card_lines m

-- what is printed of a card's bytes; there are rows for every segment, so 24 never comes (`RoomForAll`)
unfoldable pub listing_of : List ℕ → List ℕ
listing_of bytes = listed (read_of bytes most_segments)

-- a key's line has at most so many bytes, and a segment's, with numbers of 20 digits
abbrev pub longest_key_line : ℕ
longest_key_line = 9

abbrev pub longest_line : ℕ
longest_line = 51

-- no listing is longer, and a refusal's is much shorter
abbrev pub longest_listing : ℕ
longest_listing = longest_key_line + most_segments * longest_line
