-- Laws of filling: groups or the whole track go into the rows, and what shortening makes of them is what it makes of the segments.
use mathlib.Core.Path.{◌≡◌, refl, sym, ap, subst, ◌∙◌}
use mathlib.Core.Bool.{true, false}
use mathlib.Core.List.{List, [], ◌∷◌}
use Prim.Native.Nat.{ℕ, ◌^◌, ◌<◌, ◌≤◌}
use native.Mathlib.Omega.{arith}
use lib.Dec.{eqb}
use lib.ListN.{length}
use lib.Ieee.{Float}
use borrow.Author.Tests.{eq-eqb, ne_eqb}
use Rattle.laws.specs.Values.{plus_zero}
use Rattle.laws.proofs.Front.{length-list}
use Rattle.laws.proofs.Column.{column_fits}
use Rattle.keys.specs.Numbers.{key_number}
use Rattle.timeline.specs.inside.Estimates.{Columns, estimate_in, estimates_in, Numbered, Found}
use Rattle.timeline.specs.Segments.{segment, SegmentRows, segments_in, holding_segments}
use Rattle.timeline.specs.Counts.{total_windows}
use Rattle.timeline.specs.inside.Segments.{put_segment, Room, FilledRows, filled_rows, standing}
use Rattle.timeline.specs.declared.segment.Segment.{Segment}
use Rattle.timeline.proofs.Segments.{holds-start, holds_more, holds-all, segments-numbered, segments-read-back, held-again}
use Rattle.groups.specs.Groups.{first_segments, groups_of}
use Rattle.groups.proofs.Counted.{groups-count}
use Rattle.shortening.specs.Shorten.{shortened_of, left_in}
use Rattle.shortening.specs.inside.Settled.{settled}
use Rattle.shortening.proofs.Settles.{left-long}
use Rattle.segments.specs.inside.Fill.{cut_of}
use Rattle.segments.specs.declared.fill.Track.{Track}

module _ (t : Track) (rows : Columns) (count : ℕ) where
  -- with an estimate the groups are cut
  pub groups-cut : {out : FilledRows} (before : SegmentRows) → 0 < count → out ≡ standing (groups_of t.threshold t.duration (estimates_in rows count)) before → out ≡ standing (cut_of t (estimates_in rows count)) before
  unfolding first_segments
  groups-cut before h e =
      let some : eqb (length (estimates_in rows count)) 0 ≡ false = ne_eqb (length (estimates_in rows count)) 0 (λ z. omega (arith, z, length-list (estimate_in rows) count)) in
      e ∙ rw some

  -- without one the whole track is one segment
  pub whole-cut : {after : SegmentRows} (before : SegmentRows) → count ≤ 0 → Room before 1 → after ≡ put_segment (segment plus_zero t.duration t.key t.confidence 0) 0 before → filled_rows 1 after ≡ standing (cut_of t (estimates_in rows count)) before
  unfolding first_segments
  whole-cut {after} before h room e =
      let whole = segment plus_zero t.duration t.key t.confidence 0 in
      let none : eqb (length (estimates_in rows count)) 0 ≡ true = eq-eqb (length (estimates_in rows count)) 0 (omega (arith, length-list (estimate_in rows) count)) in
      let held = holds-all (whole ∷ []) before (put_segment whole 0 before) (holds_more [] whole before before 0 refl room (holds-start before)) in
      ap (filled_rows 1) (e ∙ held) ∙ rw none

  -- either way they rest on as many windows as there are estimates
  pub cut-windows : Found rows count → total_windows (cut_of t (estimates_in rows count)) < 2 ^ 32
  cut-windows there =
      let all = groups-count t.threshold t.duration t.key t.confidence (estimates_in rows count) in
      omega (arith, all, length-list (estimate_in rows) count, there.few)

-- as many places as the segments take are there
pub held-room : (segments : List Segment) (before : SegmentRows) → Room (holding_segments segments before) (length segments)
held-room segments before =
    record {
      starts = column_fits (λ (s : Segment). s.start) segments before.starts;
      ends = column_fits (λ (s : Segment). s.end) segments before.ends;
      keys = column_fits (λ (s : Segment). key_number s.key) segments before.keys;
      confidences = column_fits (λ (s : Segment). s.confidence) segments before.confidences;
      counts = column_fits (λ (s : Segment). s.windows) segments before.counts;
    }

module _ {count : ℕ} {mid : SegmentRows} (segments : List Segment) (before : SegmentRows) (cut : filled_rows count mid ≡ standing segments before) where
  many : count ≡ length segments
  many = ap (λ (f : FilledRows). f.count) cut

  rows_are : mid ≡ holding_segments segments before
  rows_are = ap (λ (f : FilledRows). f.rows) cut

  pub cut-room : Room mid count
  cut-room = subst (λ (f : FilledRows). Room f.rows f.count) (sym cut) (held-room segments before)

  pub cut-numbered : Numbered mid.keys count
  cut-numbered = subst (λ (f : FilledRows). Numbered f.rows.keys f.count) (sym cut) (segments-numbered segments before)

  pub cut-few : total_windows segments < 2 ^ 32 → total_windows (segments_in mid count) < 2 ^ 32
  cut-few h = rw (ap (λ (f : FilledRows). segments_in f.rows f.count) cut ∙ segments-read-back segments before) h

  pub settled_same : {out : FilledRows} (least : Float) → out ≡ settled least (segments_in mid count) mid → out ≡ settled least segments before
  settled_same least e =
      e
      ∙ ap (λ (f : FilledRows). settled least (segments_in f.rows f.count) f.rows) cut
      ∙ ap (λ (l : List Segment). settled least l (holding_segments segments before)) (segments-read-back segments before)
      ∙ ap (filled_rows (length (shortened_of least segments))) (held-again segments before (left_in least segments) (left-long least segments))
