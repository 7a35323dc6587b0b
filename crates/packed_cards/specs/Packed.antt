-- What a card is written from in packed numbers, and the layout of its card. Definitions only.
use Rattle.std.specs.Prelude.{ℕ, Bool, not, List, eqb, length, get_or, Option, is_some}
use Rattle.laws.specs.First.{first}
use Rattle.card.specs.Layout.{Meaning}
use Rattle.card.specs.Rules.{before}
use Rattle.card.specs.declared.layout.Header.{Header}
use Rattle.card.specs.declared.layout.Layout.{Layout}
use Rattle.card_form.specs.Rows.{CardRows, card_segments_in, layout_of_lists}

-- a header, and as many segments as there are ends
abbrev pub packed_meaning : Header → List ℕ → List ℕ → List ℕ → Meaning
packed_meaning h ends keys confidences = record { header = h; segments = card_segments_in ends keys confidences }

-- segment i does not start at the end before it, or, the first, not at 0
abbrev pub packed_gap_at : List ℕ → List ℕ → ℕ → Bool
packed_gap_at starts ends i = not (eqb (get_or starts i 0) (before 0 (λ (k : ℕ). get_or ends k 0) i))

-- the first segment that does not, or their count
abbrev pub first_packed_gap : List ℕ → List ℕ → ℕ
first_packed_gap starts ends = first (packed_gap_at starts ends) (length ends) 0

-- the layout that a header and rows are written in
unfoldable pub packed_layout : Header → CardRows → Option Layout
packed_layout h rows =
    layout_of_lists (length rows.starts) (length rows.ends) (length rows.keys) (length rows.confidences) (first_packed_gap rows.starts rows.ends)
    (packed_meaning h rows.ends rows.keys rows.confidences)

-- number 11: packed numbers that no card holds
abbrev pub packed_unwritable : Header → CardRows → Bool
packed_unwritable h rows = not (is_some (packed_layout h rows))
