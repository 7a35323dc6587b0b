-- What a mender keeps of a damaged card, and the card that it makes of it. Definitions only.
use Rattle.std.specs.Prelude.{ℕ, ◌-◌, ◌*◌, ◌/◌, min, Bool, cond, List, eqb, length, take}
use Rattle.laws.specs.Front.{list}
use Rattle.bits.specs.Bits.{bits_of_bytes}
use Rattle.card.specs.Layout.{Meaning, layout1}
use Rattle.card.specs.Rules.{no_key, header_broken, first_broken, needless}
use Rattle.card.specs.declared.layout.Layout.{Layout}
use Rattle.card.specs.declared.layout.Header.{Header}
use Rattle.card.specs.declared.layout.Segment.{Segment}
use Rattle.card_form.specs.Form.{header_width, segment_width, header_on, count_on, segment_on, card_bytes}

-- ---- the header
-- it has no key
abbrev pub has_no_key : Header → Bool
has_no_key h = eqb h.key no_key

-- the fewest segments that a card with its key has: one, and without a key none
abbrev pub fewest : Header → ℕ
fewest h = cond (has_no_key h) 0 1

-- the same without an alternate
abbrev pub without_alternate : Header → Header
without_alternate h = record { key = h.key; dsp = h.dsp; alternate = no_key; coverage = 0; confidence = h.confidence }

-- key, DSP key or confidence break a card rule: the header does so without its alternate too
unfoldable pub key_broken : Layout → Header → Bool
key_broken l h = header_broken l (without_alternate h) (fewest h)

-- where they break none, the alternate or its coverage does
unfoldable pub alternate_goes : Layout → Header → Bool
alternate_goes l h = header_broken l h (fewest h)

-- what is kept of it
abbrev pub mended_header : Layout → Header → Header
mended_header l h = cond (alternate_goes l h) (without_alternate h) h

-- ---- the segments
-- how many are wholly there on so many bytes: every bit of them is
abbrev pub wholly_there : Layout → ℕ → ℕ
wholly_there l size = (size * 8 - header_width l) / segment_width l

-- how many are counted and wholly there
unfoldable pub standing : Layout → List ℕ → ℕ
standing l bytes = min (count_on l (bits_of_bytes bytes)) (wholly_there l (length bytes))

-- how many are good in a row from the front: those before the first that breaks a card rule; where the very first one does, it is tried alone, so that it may end at 0
unfoldable pub good_run : Layout → List Segment → ℕ
good_run l ss = cond (eqb (first_broken l ss) 0) (first_broken l (take 1 ss)) (first_broken l ss)

-- how many are kept: without a key none
unfoldable pub kept_on : Layout → List ℕ → ℕ
kept_on l bytes =
    let bits = bits_of_bytes bytes in
    cond (has_no_key (header_on l bits)) 0 (good_run l (list (segment_on l bits) (standing l bytes)))

-- ---- the card
-- a header with the first n segments
abbrev pub with_first : Layout → List ℕ → Header → ℕ → Meaning
with_first l bits h n = record { header = h; segments = list (segment_on l bits) n }

-- what it says
abbrev pub mended_meaning : Layout → List ℕ → Meaning
mended_meaning l bytes = let bits = bits_of_bytes bytes in with_first l bits (mended_header l (header_on l bits)) (kept_on l bytes)

-- its layout: the old one, unless that is needless
abbrev pub mended_layout : Layout → Meaning → Layout
mended_layout l m = cond (needless l m) layout1 l

-- its bytes
abbrev pub mended_card : Layout → List ℕ → List ℕ
mended_card l bytes = let m = mended_meaning l bytes in card_bytes (mended_layout l m) m
