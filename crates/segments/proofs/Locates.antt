-- Laws of the whole way: what the run over the windows leaves is what the segments need.
use mathlib.Core.Path.{◌≡◌, sym, ap, subst, ◌∙◌}
use mathlib.Core.List.{List, map}
use Prim.Native.Nat.{ℕ, ◌^◌, ◌<◌}
use native.Mathlib.Omega.{arith}
use lib.ListN.{length}
use Rattle.laws.proofs.Column.{column_fits}
use Rattle.keys.specs.Numbers.{key_number}
use Rattle.timeline.specs.Estimates.{EstimateRows, holding_estimates}
use Rattle.timeline.specs.inside.Estimates.{columns_of, as_read, estimates_in, Found}
use Rattle.timeline.specs.Segments.{SegmentRows}
use Rattle.timeline.specs.inside.Segments.{Room, FilledRows, filled_rows}
use Rattle.timeline.specs.declared.estimate.Estimate.{Estimate}
use Rattle.timeline.specs.declared.segment.Segment.{Segment}
use Rattle.timeline.proofs.Estimates.{rows-numbered, rows-read-back}
use Rattle.windows.specs.Span.{windows_of}
use Rattle.gathering.specs.Gather.{Heard}
use Rattle.windows.specs.Run.{estimates_of}
use Rattle.windows.specs.inside.Rows.{Written, wrote, windows_written, Ready}
use Rattle.windows.specs.declared.span.Span.{Span}
use Rattle.windows.proofs.Found.{estimates-few}
use Rattle.windows.proofs.Spans.{windows-few}
use Rattle.groups.proofs.Unread.{shape-unread}
use Rattle.shortening.specs.inside.Settled.{settled}
use Rattle.segments.specs.inside.Fill.{filled_of}
use Rattle.segments.specs.inside.Located.{LocatedIn, located_in, located_of, Prepared}
use Rattle.segments.specs.declared.fill.Track.{Track}

held_found : (found : List Estimate) (before : EstimateRows) → length found < 2 ^ 32 → Found (columns_of (holding_estimates found before)) (length found)
held_found found before few =
    record {
      centres = column_fits (λ (e : Estimate). e.centre) found before.centres;
      keys = column_fits (λ (e : Estimate). key_number e.key) found before.keys;
      confidences = column_fits (λ (e : Estimate). e.confidence) found before.confidences;
      numbered = rows-numbered found before;
      few = few;
    }

-- filling does not read whether chromas have a shape
fill-unread : (t : Track) (found : List Estimate) (before : SegmentRows) → filled_of t (map as_read found) before ≡ filled_of t found before
unfolding filled_of
fill-unread t found before = ap (λ (cut : List Segment). settled t.minimum cut before) (shape-unread t.threshold t.duration t.key t.confidence found)

pub prepared-run : {s : Span} {h : Heard} {before : EstimateRows} {segments : SegmentRows} {windows : ℕ} → windows ≡ windows_of s → Prepared s h before segments → Ready s h before windows
prepared-run {s} {h} {before} all p = subst (Ready s h before) (sym all) p.ready

module _ (s : Span) (h : Heard) (before : EstimateRows) {windows n : ℕ} {rows : EstimateRows} (all : windows ≡ windows_of s) (run : wrote n rows ≡ windows_written s h windows before) where
  abbrev found : List Estimate
  found = estimates_of s h

  left : wrote n rows ≡ wrote (length found) (holding_estimates found before)
  unfolding windows_written
  left = run ∙ ap (λ (k : ℕ). windows_written s h k before) all

  -- what filling the rows needs
  pub run-needs : (segments : SegmentRows) → Prepared s h before segments → Found (columns_of rows) n × Room segments n × Room segments 1
  run-needs segments ready =
      let count : n ≡ length found = ap (λ (w : Written). w.count) left in
      let few = estimates-few s h (windows_of s) in
      let most = windows-few s in (
        subst (λ (w : Written). Found (columns_of w.rows) w.count) (sym left) (held_found found before (omega (arith, few, most))),
        record {
          starts = omega (arith, count, few, ready.room.starts);
          ends = omega (arith, count, few, ready.room.ends);
          keys = omega (arith, count, few, ready.room.keys);
          confidences = omega (arith, count, few, ready.room.confidences);
          counts = omega (arith, count, few, ready.room.counts);
        },
        ready.one,
      )

  -- both counts, with the rows of both kinds
  abbrev both : Written → FilledRows → LocatedIn
  both w f = located_in (record { estimates = w.count; segments = f.count }) w.rows f.rows

  pub located-so : (t : Track) (segments : SegmentRows) {count : ℕ} {after : SegmentRows} → filled_rows count after ≡ filled_of t (estimates_in (columns_of rows) n) segments → both (wrote n rows) (filled_rows count after) ≡ located_of s t h before segments
  unfolding located_of
  located-so t segments fill =
      let read : estimates_in (columns_of rows) n ≡ map as_read found = ap (λ (w : Written). estimates_in (columns_of w.rows) w.count) left ∙ rows-read-back found before in
      let filled = fill ∙ ap (λ (l : List Estimate). filled_of t l segments) read ∙ fill-unread t found segments in
      λ i. both (left i) (filled i)
