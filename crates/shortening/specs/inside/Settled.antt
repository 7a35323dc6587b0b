-- Shortened segments in lent rows, as the code leaves them. No promise names it. Definitions only.
use Rattle.std.specs.Prelude.{List, length, Float}
use Rattle.timeline.specs.Segments.{SegmentRows, holding_segments}
use Rattle.timeline.specs.inside.Segments.{FilledRows, filled_rows}
use Rattle.timeline.specs.declared.segment.Segment.{Segment}
use Rattle.shortening.specs.Shorten.{shortened_of, left_in}

-- shortened, with the emptied rows behind them
abbrev pub settled : Float → List Segment → SegmentRows → FilledRows
settled least segments before = filled_rows (length (shortened_of least segments)) (holding_segments (left_in least segments) before)
