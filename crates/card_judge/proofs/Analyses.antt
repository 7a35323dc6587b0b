-- An analysis as what is judged, and what is known of one that a card holds.
use Rattle.std.specs.Prelude.{Some, is_some}
use mathlib.Core.Path.{◌≡◌}
use mathlib.Core.Bool.{false}
use lib.ListN.{length}
use borrow.Author.Tests.{not-false}
use Rattle.card.specs.Rules.{layout_for}
use Rattle.card.specs.declared.layout.Layout.{Layout}
use Rattle.card.proofs.Chosen.{some-layout}
use Rattle.card_judge.specs.Analysed.{Analysis, packed_header, packed_at, meaning_of, first_gap, layout_of, unwritable}
use Rattle.card_form.proofs.Broken.{Asked, Held, held}

abbrev pub asked : Analysis → Asked
asked a =
    record {
      header = packed_header a.overall;
      at = packed_at a.ends a.keys a.confidences;
      count = length a.ends;
      starts = length a.starts;
      keys = length a.keys;
      confidences = length a.confidences;
      gap = first_gap a.starts a.ends;
    }

pub writable : (l : Layout) (a : Analysis) → layout_of a ≡ Some l → Held (asked a) l
unfolding layout_of
writable l a w = held (asked a) w

-- one that is written has a layout
pub written_in : (a : Analysis) → unwritable a ≡ false → (l : Layout) × (layout_for (meaning_of a) ≡ Some l)
written_in a w = let (l, found) = some-layout (layout_of a) (not-false (is_some (layout_of a)) w) in (l, (writable l a found).kept)
