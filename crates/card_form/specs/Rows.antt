-- A card's segments in lent rows: four slices of packed numbers side by side. Definitions only.
use Rattle.std.specs.Prelude.{ℕ, Bool, not, ◌||◌, cond, List, [], ◌∷◌, map, eqb, ltb, length, get_or, Option, None}
use Rattle.laws.specs.Front.{front, list, shortest}
use Rattle.laws.specs.Table.{any_of}
use Rattle.card.specs.Layout.{Meaning}
use Rattle.card.specs.Rules.{start_at, layout_for}
use Rattle.card.specs.declared.layout.Segment.{Segment}
use Rattle.card.specs.declared.layout.Layout.{Layout}

-- where each segment starts and ends in ms, its key's number, its confidence in thousandths
pub record CardRows : Type 0 where
  pub starts : List ℕ
  pub ends : List ℕ
  pub keys : List ℕ
  pub confidences : List ℕ

-- as a contract has it: what the references refer to
abbrev pub lent_card_rows : List ℕ → List ℕ → List ℕ → List ℕ → CardRows
lent_card_rows starts ends keys confidences = record { starts = starts; ends = ends; keys = keys; confidences = confidences }

-- how many segments there is room for
abbrev pub rows_in : CardRows → ℕ
rows_in rows = shortest (length rows.starts) (length rows.ends ∷ length rows.keys ∷ length rows.confidences ∷ [])

-- segments as rows: a start is the end before it, the first 0
abbrev pub rows_of : List Segment → CardRows
rows_of ss =
    record {
      starts = list (start_at ss) (length ss);
      ends = map (λ (s : Segment). s.end) ss;
      keys = map (λ (s : Segment). s.key) ss;
      confidences = map (λ (s : Segment). s.confidence) ss;
    }

-- the rows once these segments stand in the first places
abbrev pub holding_card : List Segment → CardRows → CardRows
holding_card ss before =
    let rows = rows_of ss in
    record {
      starts = front rows.starts before.starts;
      ends = front rows.ends before.ends;
      keys = front rows.keys before.keys;
      confidences = front rows.confidences before.confidences;
    }

-- segment i of three lists
abbrev pub row_at : List ℕ → List ℕ → List ℕ → ℕ → Segment
row_at ends keys confidences i = record { end = get_or ends i 0; key = get_or keys i 0; confidence = get_or confidences i 0 }

-- the segments that rows hold: as many as there are ends
abbrev pub card_segments_in : List ℕ → List ℕ → List ℕ → List Segment
card_segments_in ends keys confidences = list (row_at ends keys confidences) (length ends)

-- lists of these lengths are not equally long
unfoldable pub unequal : ℕ → ℕ → ℕ → ℕ → Bool
unequal starts ends keys confidences = any_of (not (eqb starts ends) ∷ not (eqb keys ends) ∷ not (eqb confidences ends) ∷ [])

-- the layout of a meaning that is told by lists of these lengths: none where they are not equally long, or where one of the segments, the first at `gap`, does not start where it has to
abbrev pub layout_of_lists : ℕ → ℕ → ℕ → ℕ → ℕ → Meaning → Option Layout
layout_of_lists starts ends keys confidences gap m = cond (unequal starts ends keys confidences || ltb gap ends) None (layout_for m)
