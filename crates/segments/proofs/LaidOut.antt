-- The estimates of the windows have centres that rise, so their segments are laid out; and these read back from their rows as they were shortened.
use mathlib.Core.Path.{◌≡◌, sym, ap, subst, ◌∙◌}
use mathlib.Core.Bool.{Bool, true, false, cond}
use mathlib.Core.List.{List, ◌++◌}
use Prim.Native.Nat.{ℕ, ◌+◌, ◌-◌, ◌<◌, ◌≤◌}
use native.Mathlib.Omega.{arith}
use lib.ListN.{length, length-append, get_or-append}
use lib.Ieee.{Float, binary64}
use Rattle.laws.specs.Values.{Modest}
use Rattle.laws.proofs.Front.{list_same, list-own}
use Rattle.timeline.specs.Estimates.{Rising}
use Rattle.timeline.specs.Segments.{emptied, segment_at, SegmentRows, segment_in, segments_in, holding_segments}
use Rattle.timeline.specs.Tiling.{Tiles}
use Rattle.timeline.specs.declared.estimate.Estimate.{Estimate}
use Rattle.timeline.specs.declared.segment.Segment.{Segment}
use Rattle.timeline.proofs.Segments.{segment-there, segments-read-back}
use Rattle.windows.specs.Span.{brief, budget_for, windows_within, windows_of}
use Rattle.calls.specs.Call.{longest_track}
use Rattle.windows.specs.Run.{estimates_of}
use Rattle.windows.specs.declared.span.Span.{Span}
use Rattle.windows.proofs.Found.{estimates-few}
use Rattle.windows.proofs.Rising.{centres-rise}
use Rattle.windows.proofs.Spans.{windows-few}
use Rattle.groups.proofs.Few.{segments-few}
use Rattle.shortening.specs.Shorten.{shortened_of, left_in}
use Rattle.shortening.proofs.Settles.{shortened-few}
use Rattle.segments.specs.inside.Fill.{cut_of, segments_of, filled_of}
use Rattle.segments.specs.Demand.{TrackLaidOut}
use Rattle.segments.specs.declared.fill.Track.{Track}
use Rattle.segments.proofs.Demand.{segments-tile, no-segment-short}

-- the first of the segments that stand in the rows
first-read-back : (segments rest : List Segment) (before : SegmentRows) → segments_in (holding_segments (segments ++ rest) before) (length segments) ≡ segments
first-read-back segments rest before =
    list_same (segment_in rows) (λ (i : ℕ). segment_at segments i) (length segments) same ∙ list-own segments emptied
  where
    rows : SegmentRows
    rows = holding_segments (segments ++ rest) before

    same : (i : ℕ) → i < length segments → segment_in rows i ≡ segment_at segments i
    same i h =
        sym (segment-there rows (length (segments ++ rest)) i (simp length-append (omega (arith, h))))
        ∙ ap (λ (xs : List Segment). segment_at xs i) (segments-read-back (segments ++ rest) before)
        ∙ get_or-append segments rest emptied i h

-- filling leaves the segments of the estimates
pub filled-read-back : (t : Track) (found : List Estimate) (before : SegmentRows) → segments_in (filled_of t found before).rows (filled_of t found before).count ≡ segments_of t found
unfolding filled_of segments_of left_in
filled-read-back t found before = first-read-back (shortened_of t.minimum (cut_of t found)) _ before

-- so many estimates give so many segments at most
count-few : (t : Track) (found : List Estimate) → length (segments_of t found) ≤ length found - 1 + 1
unfolding segments_of
count-few t found = let cut = segments-few t.threshold t.duration t.key t.confidence found in omega (arith, cut, shortened-few t.minimum (cut_of t found))

-- the windows of a track are those that the loop passes, or none
windows-passed : (s : Span) → windows_of s ≤ windows_within (budget_for longest_track) s
unfolding windows_of
windows-passed s = either (brief s) (windows_within (budget_for longest_track) s)
  where
    either : (b : Bool) (n : ℕ) → cond b 0 n ≤ n
    either true n = omega arith
    either false n = omega arith

pub track-laid-out : TrackLaidOut
track-laid-out s t h timed same =
    let found = estimates_of s h in
    let rising = centres-rise s h (budget_for longest_track) (windows_of s) timed (windows-passed s) in
    let tiled = segments-tile t found (subst (Modest binary64) (sym same) timed.duration) (subst (λ (x : Float). Rising x found) (sym same) rising) in
    record {
      tiles = subst (λ (x : Float). Tiles x (segments_of t found)) same tiled;
      none_short = no-segment-short t found;
      few = let few = windows-few s in omega (arith, few, estimates-few s h (windows_of s), count-few t found);
    }
