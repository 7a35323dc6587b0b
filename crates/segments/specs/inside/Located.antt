-- The whole way from the loud frames to the segments in lent rows, as the code has it. No promise names it. Definitions only.
use Rattle.std.specs.Prelude.{length}
use Rattle.timeline.specs.Estimates.{EstimateRows, holding_estimates}
use Rattle.timeline.specs.Segments.{SegmentRows}
use Rattle.timeline.specs.inside.Segments.{Room}
use Rattle.windows.specs.Span.{windows_of}
use Rattle.gathering.specs.Gather.{Heard}
use Rattle.windows.specs.Run.{estimates_of}
use Rattle.windows.specs.inside.Rows.{Ready}
use Rattle.windows.specs.declared.span.Span.{Span}
use Rattle.segments.specs.inside.Fill.{filled_of}
use Rattle.segments.specs.declared.fill.Track.{Track}
use Rattle.segments.specs.declared.track.Located.{Located}

-- what is answered, and the rows that are left
pub record LocatedIn : Type 0 where
  pub answer : Located
  pub estimates : EstimateRows
  pub segments : SegmentRows

-- the same, from its parts
abbrev pub located_in : Located → EstimateRows → SegmentRows → LocatedIn
located_in answer estimates segments = record { answer = answer; estimates = estimates; segments = segments }

-- the estimates of all windows become segments
unfoldable pub located_of : Span → Track → Heard → EstimateRows → SegmentRows → LocatedIn
located_of s t h estimates before =
    let found = estimates_of s h in
    let filled = filled_of t found before in
    located_in (record { estimates = length found; segments = filled.count }) (holding_estimates found estimates) filled.rows

-- what that needs: the run's needs, and room for a segment to each window, and for one
pub record Prepared (s : Span) (h : Heard) (estimates : EstimateRows) (before : SegmentRows) : Type 0 where
  pub ready : Ready s h estimates (windows_of s)
  pub room : Room before (windows_of s)
  pub one : Room before 1
