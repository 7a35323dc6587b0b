-- From what was located to the report: the segments are read back from their rows as they were shortened, and the keys are named as three columns tell them.
use mathlib.Core.Path.{◌≡◌, sym, ap, subst, ◌∙◌}
use mathlib.Core.List.{List, map}
use Prim.Native.Nat.{ℕ}
use lib.ListN.{length}
use lib.Ieee.{Float}
use Rattle.keys.specs.Numbers.{key_number}
use Rattle.calls.specs.declared.Settings.{Settings}
use Rattle.timeline.specs.Estimates.{EstimateRows, holding_estimates}
use Rattle.timeline.specs.Segments.{SegmentRows, segments_in}
use Rattle.timeline.specs.inside.Segments.{stretches_of, as_stretch, stretches_in}
use Rattle.timeline.proofs.Segments.{stretches-there}
use Rattle.timeline.specs.declared.segment.Segment.{Segment}
use Rattle.windows.specs.Span.{span_of, windows_of}
use Rattle.windows.specs.Run.{estimates_of}
use Rattle.windows.proofs.Alike.{estimates-alike}
use Rattle.windows.specs.declared.span.Span.{Span}
use Rattle.gathering.specs.Gather.{Heard}
use Rattle.gathering.proofs.Alike.{Alike}
use Rattle.segments.specs.inside.Fill.{segments_of, filled_of}
use Rattle.segments.specs.inside.Located.{LocatedIn, located_in, located_of, Prepared}
use Rattle.segments.specs.declared.fill.Track.{Track}
use Rattle.segments.specs.declared.track.Located.{Located}
use Rattle.segments.proofs.LaidOut.{filled-read-back}
use Rattle.longest.specs.Longest.{reported_of}
use Rattle.longest.proofs.Unread.{reported-unread}
use Rattle.alternates.proofs.Unread.{alternate-unread}
use Rattle.answers.specs.Answer.{counts}
use Rattle.answers.specs.declared.answer.Counts.{Counts}
use Rattle.answers.specs.declared.answer.AnalyseResult.{AnalyseResult}
use Rattle.verdicts.specs.declared.verdict.Verdict.{Verdict}
use Rattle.reports.specs.Report.{named_in, report_of}
use Rattle.reports.specs.inside.Rows.{track_of, Reported, reported, reported_in}

pub prepared-span : {span known : Span} {h : Heard} {e : EstimateRows} {before : SegmentRows} → span ≡ known → Prepared known h e before → Prepared span h e before
prepared-span {h = h} {e = e} {before = before} same p = subst (λ (x : Span). Prepared x h e before) (sym same) p

-- the answer by what was located, with the segments as their rows have them
abbrev told-by : Settings → Verdict → ℕ → SegmentRows → Located → AnalyseResult
told-by s v frames rows located = named_in s.alternate_coverage_threshold v (counts frames located.estimates located.segments) (segments_in rows located.segments)

abbrev report-by : Settings → Verdict → ℕ → LocatedIn → Reported
report-by s v frames o = reported (told-by s v frames o.segments o.answer) o.estimates o.segments

-- the same by starts, ends and keys alone
named-unread : (threshold : Float) (v : Verdict) (c : Counts) (segments : List Segment) → named_in threshold v c (map as_stretch segments) ≡ named_in threshold v c segments
unfolding named_in
named-unread threshold v c segments = rw (reported-unread v.key segments, alternate-unread (key_number (reported_of v.key segments)) threshold segments)

pub told-so : (s : Settings) (v : Verdict) (frames : ℕ) (rows : SegmentRows) (located : Located) {r : AnalyseResult} → r ≡ named_in s.alternate_coverage_threshold v (counts frames located.estimates located.segments) (stretches_in (stretches_of rows) located.segments) → r ≡ told-by s v frames rows located
told-so s v frames rows located told =
    let many = counts frames located.estimates located.segments in
    told
    ∙ ap (named_in s.alternate_coverage_threshold v many) (stretches-there rows located.segments)
    ∙ named-unread s.alternate_coverage_threshold v many (segments_in rows located.segments)

module _ (s : Settings) (count : ℕ) (v : Verdict) (h : Heard) (e : EstimateRows) (before : SegmentRows) where
  -- rows that were filled hold what the report has, and read back as its segments
  lists-are : report-by s v h.frames (located_of (span_of s count) (track_of s (span_of s count) v) h e before) ≡ reported_in (report_of s count v h) e before
  unfolding located_of report_of track_of filled_of segments_of
  lists-are =
      let span = span_of s count in
      let track = track_of s span v in
      let found = estimates_of span h in
      let many = counts h.frames (length found) (length (segments_of track found)) in
      ap (λ (l : List Segment). reported (named_in s.alternate_coverage_threshold v many l) (holding_estimates found e) (filled_of track found before).rows) (filled-read-back track found before)

  pub report-so : {span : Span} {track : Track} → span ≡ span_of s count → track ≡ track_of s span v
      → {located : Located} {r : AnalyseResult} {e' : EstimateRows} {rows : SegmentRows} → located_in located e' rows ≡ located_of span track h e before → r ≡ told-by s v h.frames rows located → reported r e' rows ≡ reported_in (report_of s count v h) e before
  report-so {span} spans tracks {e' = e'} {rows = rows} found told =
      ap (λ (a : AnalyseResult). reported a e' rows) told
      ∙ ap (report-by s v h.frames) (found ∙ ap (λ (t : Track). located_of span t h e before) tracks)
      ∙ ap (λ (x : Span). report-by s v h.frames (located_of x (track_of s x v) h e before)) spans
      ∙ lists-are

-- two that agree in the frames they have make the same report
pub report-alike : (s : Settings) (count : ℕ) (v : Verdict) {h k : Heard} → Alike h k → report_of s count v h ≡ report_of s count v k
unfolding report_of
report-alike s count v alike = rw (estimates-alike (span_of s count) alike (windows_of (span_of s count)), alike.frames)
