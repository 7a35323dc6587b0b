-- The key card's form: which numbers in how many bits, and what stands on one. Definitions only.
use Rattle.std.specs.Prelude.{Bool, not, List, [], ◌∷◌, ◌++◌, ℕ, ◌+◌, ◌*◌, eqb, length, drop, get_or}
use Rattle.laws.specs.Front.{list}
use Rattle.bits.specs.Bits.{bytes_for, bytes_of, number_of, field_bits, field_at, fields_of}
use Rattle.card.specs.Layout.{Meaning, layout_or1}
use Rattle.card.specs.Rules.{layout_for}
use Rattle.card.specs.declared.layout.Layout.{Layout}
use Rattle.card.specs.declared.layout.Header.{Header}
use Rattle.card.specs.declared.layout.Segment.{Segment}

-- the widths of layout, key, DSP key, alternate, coverage, confidence and segment count
abbrev pub header_widths : Layout → List ℕ
header_widths l = 4 ∷ 5 ∷ 5 ∷ 5 ∷ 10 ∷ 10 ∷ l.count ∷ []

-- how many bits stand before the segments
abbrev pub header_width : Layout → ℕ
header_width l = 39 + l.count

-- the bits before the segments
abbrev pub header_bits : Layout → Header → ℕ → List ℕ
header_bits l h count =
    field_bits (header_widths l) (l.number ∷ h.key ∷ h.dsp ∷ h.alternate ∷ h.coverage ∷ h.confidence ∷ count ∷ [])

-- the widths of end, key and confidence
abbrev pub segment_widths : Layout → List ℕ
segment_widths l = l.end ∷ 5 ∷ 10 ∷ []

-- how many bits a segment has
abbrev pub segment_width : Layout → ℕ
segment_width l = l.end + 5 + 10

-- the bits of a segment
abbrev pub segment_bits : Layout → Segment → List ℕ
segment_bits l s = field_bits (segment_widths l) (s.end ∷ s.key ∷ s.confidence ∷ [])

-- one segment behind the other
unfoldable pub segments_bits : Layout → List Segment → List ℕ
segments_bits l [] = []
segments_bits l (s ∷ ss) = segment_bits l s ++ segments_bits l ss

-- a card's bits
abbrev pub card_bits : Layout → Meaning → List ℕ
card_bits l m = header_bits l m.header (length m.segments) ++ segments_bits l m.segments

-- a card's bytes
unfoldable pub card_bytes : Layout → Meaning → List ℕ
card_bytes l m = bytes_of (card_bits l m)

-- the card of a meaning that one holds, in the layout that it is written in
abbrev pub card_for : Meaning → List ℕ
card_for m = card_bytes (layout_or1 (layout_for m)) m

-- where segment i begins, or, behind the last one, the filler
abbrev pub segment_place : Layout → ℕ → ℕ
segment_place l i = header_width l + i * segment_width l

-- how many bytes a card of so many segments has
abbrev pub card_size : Layout → ℕ → ℕ
card_size l count = bytes_for (segment_place l count)

-- ---- what stands on a card, by its bits
-- the number of its layout, which every layout has in the same place
abbrev pub number_on : List ℕ → ℕ
number_on bits = field_at bits 0 4

-- field i before the segments
abbrev pub header_field : Layout → List ℕ → ℕ → ℕ
header_field l bits i = get_or (fields_of (header_widths l) bits) i 0

-- the header
unfoldable pub header_on : Layout → List ℕ → Header
header_on l bits =
    let at = header_field l bits in
    record { key = at 1; dsp = at 2; alternate = at 3; coverage = at 4; confidence = at 5 }

-- the segment count
unfoldable pub count_on : Layout → List ℕ → ℕ
count_on l bits = header_field l bits 6

-- field k of segment i
abbrev pub segment_field : Layout → List ℕ → ℕ → ℕ → ℕ
segment_field l bits i k = get_or (fields_of (segment_widths l) (drop (segment_place l i) bits)) k 0

-- segment i
unfoldable pub segment_on : Layout → List ℕ → ℕ → Segment
segment_on l bits i = let at = segment_field l bits i in record { end = at 0; key = at 1; confidence = at 2 }

-- all that it says
abbrev pub meaning_on : Layout → List ℕ → Meaning
meaning_on l bits = record { header = header_on l bits; segments = list (segment_on l bits) (count_on l bits) }

-- a bit behind the last segment is set
unfoldable pub filler_set : Layout → List ℕ → Bool
filler_set l bits = not (eqb (number_of (drop (segment_place l (count_on l bits)) bits)) 0)
