-- Segments from estimates to lent rows, as the code has them: by a track's numbers. No promise names it. Definitions only.
use Rattle.std.specs.Prelude.{List}
use Rattle.timeline.specs.declared.estimate.Estimate.{Estimate}
use Rattle.timeline.specs.Segments.{SegmentRows}
use Rattle.timeline.specs.inside.Segments.{FilledRows}
use Rattle.groups.specs.Groups.{first_segments}
use Rattle.shortening.specs.Shorten.{shortened_of}
use Rattle.shortening.specs.inside.Settled.{settled}
use Rattle.segments.specs.declared.fill.Track.{Track}
use Rattle.timeline.specs.declared.segment.Segment.{Segment}

-- the segments before shortening
abbrev pub cut_of : Track → List Estimate → List Segment
cut_of t found = first_segments t.threshold t.duration t.key t.confidence found

-- the segments of a track
unfoldable pub segments_of : Track → List Estimate → List Segment
segments_of t found = shortened_of t.minimum (cut_of t found)

-- the segments of these estimates in the rows
unfoldable pub filled_of : Track → List Estimate → SegmentRows → FilledRows
filled_of t found before = settled t.minimum (cut_of t found) before
