-- Shortening ends by itself, leaves no short segment among several, and keeps the tiling. Statements only.
use Rattle.std.specs.Prelude.{◌≡◌, false, ℕ, ◌≤◌, List, length, Float}
use Rattle.timeline.specs.Tiling.{Tiles, NoneShort}
use Rattle.timeline.specs.declared.segment.Segment.{Segment}
use Rattle.shortening.specs.Shorten.{unsettled, shorten, shortened_of}

-- shortening ends by itself: as many joins as there are segments leave nothing to join, and more would change nothing
pub record Ends (least : Float) (segments : List Segment) : Type 0 where
  pub nothing_left : unsettled least (shortened_of least segments) ≡ false
  pub no_more : (budget : ℕ) → length segments ≤ budget → shorten budget least segments ≡ shortened_of least segments

-- whatever the minimum and the segments
abbrev pub ShorteningEnds : Type 0
ShorteningEnds = (least : Float) (segments : List Segment) → Ends least segments

-- whatever the minimum and the segments, too
abbrev pub NoneLeftShort : Type 0
NoneLeftShort = (least : Float) (segments : List Segment) → NoneShort least (shortened_of least segments)

-- segments that tile still do
abbrev pub ShorteningTiles : Type 0
ShorteningTiles = (least duration : Float) (segments : List Segment) → Tiles duration segments → Tiles duration (shortened_of least segments)
