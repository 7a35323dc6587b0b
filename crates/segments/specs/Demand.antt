-- Demand 3 on segments: they tile the track, and of several none is short; and on how many windows they rest. Statements only.
use Rattle.std.specs.Prelude.{◌≡◌, ◌≤◌, List, length, Float}
use Rattle.std.specs.Float.{binary64}
use Rattle.laws.specs.Values.{Modest}
use Rattle.calls.specs.Call.{longest_track}
use Rattle.timeline.specs.Estimates.{Rising}
use Rattle.timeline.specs.declared.estimate.Estimate.{Estimate}
use Rattle.timeline.specs.declared.segment.Segment.{Segment}
use Rattle.timeline.specs.Tiling.{Tiles, NoneShort}
use Rattle.timeline.specs.Counts.{total_windows}
use Rattle.windows.specs.Span.{budget_for}
use Rattle.windows.specs.Run.{estimates_of}
use Rattle.gathering.specs.Gather.{Heard}
use Rattle.windows.specs.Rising.{Timed}
use Rattle.windows.specs.declared.span.Span.{Span}
use Rattle.segments.specs.inside.Fill.{segments_of}
use Rattle.segments.specs.declared.fill.Track.{Track}

-- of estimates whose centres rise up to the duration, the segments tile
abbrev pub SegmentsTile : Type 0
SegmentsTile = (t : Track) (found : List Estimate) → Modest binary64 t.duration → Rising t.duration found → Tiles t.duration (segments_of t found)

-- of any estimates
abbrev pub NoSegmentShort : Type 0
NoSegmentShort = (t : Track) (found : List Estimate) → NoneShort t.minimum (segments_of t found)

-- the segments of any estimates, and of none, rest on all of them together
abbrev pub SegmentsCount : Type 0
SegmentsCount = (t : Track) (found : List Estimate) → total_windows (segments_of t found) ≡ length found

-- the first two, and the segments are no more than the budget has windows
pub record LaidOut (duration least : Float) (segments : List Segment) : Type 0 where
  pub tiles : Tiles duration segments
  pub none_short : NoneShort least segments
  pub few : length segments ≤ budget_for longest_track

-- so are the segments of the estimates that the windows give, whatever is heard in them
abbrev pub TrackLaidOut : Type 0
TrackLaidOut = (s : Span) (t : Track) (h : Heard) → Timed s → t.duration ≡ s.duration → LaidOut s.duration t.minimum (segments_of t (estimates_of s h))
