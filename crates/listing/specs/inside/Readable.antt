-- What listing a card needs. No promise names it. Definitions only.
use Rattle.std.specs.Prelude.{ℕ, ◌*◌, ◌≤◌, List, length}
use Rattle.bits.specs.Bits.{bits_of_bytes}
use Rattle.card.specs.Layout.{LayoutFits, most_segments}
use Rattle.card.specs.declared.layout.Layout.{Layout}
use Rattle.card_form.specs.Form.{segment_place, count_on}
use Rattle.listing.specs.Listing.{}

-- the card holds the segments that it counts, which are few enough
pub record CanList (card : List ℕ) (l : Layout) : Type 0 where
  pub fits : LayoutFits l
  pub few : count_on l (bits_of_bytes card) ≤ most_segments
  pub long : segment_place l (count_on l (bits_of_bytes card)) ≤ length card * 8
