-- Demand 3 on segments: the groups tile, and shortening keeps that and leaves none short. It keeps their windows, too.
use mathlib.Core.Path.{◌∙◌}
use Rattle.groups.proofs.Tiled.{groups-tile}
use Rattle.groups.proofs.Counted.{groups-count}
use Rattle.shortening.proofs.Settles.{none-left-short}
use Rattle.shortening.proofs.Tiled.{shortening-tiles}
use Rattle.shortening.proofs.Counts.{counts-stay}
use Rattle.segments.specs.inside.Fill.{cut_of, segments_of}
use Rattle.segments.specs.Demand.{SegmentsTile, NoSegmentShort, SegmentsCount}

pub segments-tile : SegmentsTile
unfolding segments_of
segments-tile t found whole rising =
    shortening-tiles t.minimum t.duration (cut_of t found) (groups-tile t.threshold t.duration t.key t.confidence found whole rising)

pub no-segment-short : NoSegmentShort
unfolding segments_of
no-segment-short t found = none-left-short t.minimum (cut_of t found)

pub segments-count : SegmentsCount
unfolding segments_of
segments-count t found = (counts-stay (cut_of t found)).shortened t.minimum ∙ groups-count t.threshold t.duration t.key t.confidence found
