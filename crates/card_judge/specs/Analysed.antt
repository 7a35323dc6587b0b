-- The analysis that a card is written from, in seconds and parts of one, its meaning in packed numbers, and the layout of its card. Definitions only.
use Rattle.std.specs.Prelude.{ℕ, ◌+◌, Bool, not, List, length, get_or, Float, Option, is_some, unwrap_or}
use Rattle.std.specs.Float.{nan}
use Rattle.std.specs.Float.Ieee.{eq}
use Rattle.laws.specs.First.{first}
use Rattle.laws.specs.Front.{list}
use Rattle.laws.specs.Values.{plus_zero}
use Rattle.packed.specs.Packing.{thousandths_of, milliseconds_of}
use Rattle.card.specs.Layout.{Meaning, last_end}
use Rattle.card.specs.Rules.{before}
use Rattle.card_form.specs.Rows.{layout_of_lists}
use Rattle.card_judge.specs.declared.analysed.Overall.{Overall}
use Rattle.card.specs.declared.layout.Header.{Header}
use Rattle.card.specs.declared.layout.Segment.{Segment}
use Rattle.card.specs.declared.layout.Layout.{Layout}

-- what is said of the whole track, and the segments in four lists
pub record Analysis : Type 0 where
  pub overall : Overall
  pub starts : List Float
  pub ends : List Float
  pub keys : List ℕ
  pub confidences : List Float

-- the same, from its parts
abbrev pub analysis : Overall → List Float → List Float → List ℕ → List Float → Analysis
analysis overall starts ends keys confidences = record { overall = overall; starts = starts; ends = ends; keys = keys; confidences = confidences }

-- ---- packed numbers, the same in every layout: what can't be packed counts as the number above the limit, which breaks the rules of each
-- thousandths of a float, rounded down
abbrev pub packed_part : Float → ℕ
packed_part x = unwrap_or (thousandths_of x) 1001

-- milliseconds of a float, rounded down
abbrev pub packed_end : Float → ℕ
packed_end x = unwrap_or (milliseconds_of x last_end) (last_end + 1)

-- the header
abbrev pub packed_header : Overall → Header
packed_header o =
    record { key = o.key; dsp = o.dsp; alternate = o.alternate; coverage = packed_part o.coverage; confidence = packed_part o.confidence }

-- one segment
abbrev pub packed_segment : Float → ℕ → Float → Segment
packed_segment end key confidence = record { end = packed_end end; key = key; confidence = packed_part confidence }

-- segment i of three lists
abbrev pub packed_at : List Float → List ℕ → List Float → ℕ → Segment
packed_at ends keys confidences i = packed_segment (get_or ends i nan) (get_or keys i 0) (get_or confidences i nan)

-- as many segments as there are ends
abbrev pub packed_segments : List Float → List ℕ → List Float → List Segment
packed_segments ends keys confidences = list (packed_at ends keys confidences) (length ends)

-- the parts of an analysis in packed numbers
abbrev pub meaning : Overall → List Float → List ℕ → List Float → Meaning
meaning o ends keys confidences = record { header = packed_header o; segments = packed_segments ends keys confidences }

-- an analysis in packed numbers
abbrev pub meaning_of : Analysis → Meaning
meaning_of a = meaning a.overall a.ends a.keys a.confidences

-- ---- the layout
-- segment i does not start at the end before it, or, the first, not at 0
abbrev pub gap_at : List Float → List Float → ℕ → Bool
gap_at starts ends i = not (eq (get_or starts i nan) (before plus_zero (λ (k : ℕ). get_or ends k nan) i))

-- the first segment that does not, or their count
abbrev pub first_gap : List Float → List Float → ℕ
first_gap starts ends = first (gap_at starts ends) (length ends) 0

-- the layout that it is written in
unfoldable pub layout_of : Analysis → Option Layout
layout_of a = layout_of_lists (length a.starts) (length a.ends) (length a.keys) (length a.confidences) (first_gap a.starts a.ends) (meaning_of a)

-- number 11: an analysis that no card holds
abbrev pub unwritable : Analysis → Bool
unwritable a = not (is_some (layout_of a))
