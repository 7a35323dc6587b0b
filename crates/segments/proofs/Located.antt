-- The rows of the segments that were located have room for as many.
use mathlib.Core.Path.{◌≡◌, sym, subst}
use mathlib.Core.List.{List}
use Prim.Native.Nat.{◌≤◌}
use native.Mathlib.Omega.{arith}
use lib.ListN.{length, length-append}
use lib.Ieee.{Float}
use Rattle.timeline.specs.Estimates.{EstimateRows}
use Rattle.timeline.specs.Segments.{SegmentRows}
use Rattle.timeline.specs.inside.Segments.{Room}
use Rattle.timeline.specs.declared.segment.Segment.{Segment}
use Rattle.gathering.specs.Gather.{Heard}
use Rattle.windows.specs.Run.{estimates_of}
use Rattle.windows.specs.declared.span.Span.{Span}
use Rattle.shortening.specs.Shorten.{shortened_of, left_in}
use Rattle.shortening.specs.inside.Settled.{settled}
use Rattle.segments.specs.inside.Fill.{cut_of, filled_of}
use Rattle.segments.specs.inside.Located.{LocatedIn, located_in, located_of}
use Rattle.segments.specs.declared.fill.Track.{Track}
use Rattle.segments.specs.declared.track.Located.{Located}
use Rattle.segments.proofs.Fills.{held-room}

settled-room : (least : Float) (segments : List Segment) (before : SegmentRows) → Room (settled least segments before).rows (settled least segments before).count
unfolding left_in
settled-room least segments before =
    let left = left_in least segments in
    let all : length (shortened_of least segments) ≤ length left = simp length-append (omega arith) in
    let room = held-room left before in
    record {
      starts = omega (arith, room.starts, all);
      ends = omega (arith, room.ends, all);
      keys = omega (arith, room.keys, all);
      confidences = omega (arith, room.confidences, all);
      counts = omega (arith, room.counts, all);
    }

pub located-room : (s : Span) (t : Track) (h : Heard) (e : EstimateRows) (before : SegmentRows) {located : Located} {e' : EstimateRows} {rows : SegmentRows} → located_in located e' rows ≡ located_of s t h e before → Room rows located.segments
unfolding located_of filled_of
located-room s t h e before found = subst (λ (o : LocatedIn). Room o.segments o.answer.segments) (sym found) (settled-room t.minimum (cut_of t (estimates_of s h)) before)
