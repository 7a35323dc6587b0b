-- Packed rows as what is judged, and what is known of those that a card holds.
use Rattle.std.specs.Prelude.{Some}
use mathlib.Core.Path.{◌≡◌}
use lib.ListN.{length}
use Rattle.card.specs.declared.layout.Layout.{Layout}
use Rattle.card.specs.declared.layout.Header.{Header}
use Rattle.card_form.specs.Rows.{CardRows, row_at}
use Rattle.card_form.proofs.Broken.{Asked, Held, held}
use Rattle.packed_cards.specs.Packed.{first_packed_gap, packed_layout}

abbrev pub asked : Header → CardRows → Asked
asked h rows =
    record {
      header = h;
      at = row_at rows.ends rows.keys rows.confidences;
      count = length rows.ends;
      starts = length rows.starts;
      keys = length rows.keys;
      confidences = length rows.confidences;
      gap = first_packed_gap rows.starts rows.ends;
    }

pub writable : (l : Layout) (h : Header) (rows : CardRows) → packed_layout h rows ≡ Some l → Held (asked h rows) l
unfolding packed_layout
writable l h rows w = held (asked h rows) w
