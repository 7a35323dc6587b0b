-- Every outcome is an answer without a key or a report, so what holds of both holds of all; and the segments of a report read back from their rows.
use mathlib.Core.Path.{◌≡◌, refl}
use mathlib.Core.List.{List, map}
use Prim.Native.Nat.{ℕ}
use lib.Dec.{ltb, eqb}
use lib.ListN.{length}
use Rattle.std.specs.Prelude.{None, Some, Ok, Err}
use Rattle.laws.proofs.Cases.{by-test}
use Rattle.calls.specs.Call.{Call}
use Rattle.calls.specs.declared.Settings.{Settings}
use Rattle.checks.specs.Checks.{Checked}
use Rattle.checks.specs.Refusals.{number_of}
use Rattle.timeline.specs.Segments.{segments_in, holding_segments}
use Rattle.windows.specs.Span.{span_of}
use Rattle.windows.specs.Run.{estimates_of}
use Rattle.gathering.specs.Gather.{Heard}
use Rattle.one_frame.specs.declared.frame.Row.{Row}
use Rattle.onsets.specs.Weighted.{weighted_medians}
use Rattle.frames.specs.Run.{loud_before, holding_frames, stop_at}
use Rattle.segments.specs.inside.Fill.{cut_of, segments_of, filled_of}
use Rattle.segments.proofs.LaidOut.{filled-read-back}
use Rattle.shortening.specs.Shorten.{left_in}
use Rattle.verdicts.specs.Verdict.{faint, verdict_of}
use Rattle.verdicts.specs.declared.verdict.Verdict.{Verdict}
use Rattle.answers.specs.Answer.{keyless}
use Rattle.rooms.specs.Lent.{Lent}
use Rattle.rooms.specs.inside.With.{with_frames, work_zeroed}
use Rattle.reports.specs.Report.{report_of}
use Rattle.reports.specs.inside.Rows.{track_of}
use Rattle.loud_frames.specs.Loud.{AnalyseOutcome, analyse_outcome, report_left, chromas_of, heard_of, loud_analysed}
use Rattle.positions.specs.Positions.{positions_analysed}
use Rattle.analysis.specs.Analyse.{after_checks, table_of, analysed}

-- the segments of a report stand in their rows as they were shortened
pub read_left : (s : Settings) (count : ℕ) (v : Verdict) (h : Heard) (l : Lent) → let found = estimates_of (span_of s count) h in
    let track = track_of s (span_of s count) v in
    segments_in (holding_segments (left_in s.minimum_segment_seconds (cut_of track found)) l.segments) (length (segments_of track found)) ≡ segments_of track found
unfolding filled_of segments_of track_of
read_left s count v h l = filled-read-back (track_of s (span_of s count) v) (estimates_of (span_of s count) h) l.segments

module _ (c : Call) (P : AnalyseOutcome → Type 0) (keyless-has : (refusal position frames : ℕ) (l : Lent) → P (analyse_outcome (keyless refusal position frames) l)) where
  abbrev Reports : Type 0
  Reports = (v : Verdict) (h : Heard) (l : Lent) → P (report_left l (report_of c.settings (length c.samples) v h))

  loud-has : Reports → (found : List Row) (l : Lent) → P (loud_analysed c.settings (length c.samples) found l)
  unfolding loud_analysed
  loud-has report-has found l =
      let medians = weighted_medians (chromas_of found) (map (λ (r : Row). r.energy) found) (length found) in
      let worked = work_zeroed (length found) l in
      by-test P (eqb (length found) 0) (λ _. keyless-has 0 0 0 l)
      (λ _. by-test P (faint medians) (λ _. keyless-has 0 0 (length found) worked) (λ _. report-has (verdict_of medians (chromas_of found) (length found)) (heard_of found) worked))

  positions-have : Reports → (positions : ℕ) (l : Lent) → P (positions_analysed c positions l)
  unfolding positions_analysed
  positions-have report-has positions l =
      let k = stop_at c positions in
      let found = loud_before c k in
      let held = with_frames (holding_frames found l.frames) l in
      by-test P (ltb k positions) (λ _. keyless-has 9 k (length found) held) (λ _. loud-has report-has found held)

  pub analysed-has : (l : Lent) → ((positions : ℕ) → table_of c l ≡ Ok (Some positions) → Reports) → P (analysed c l)
  analysed-has l report-has = go (table_of c l) refl
    where
      go : (checks : Checked) → table_of c l ≡ checks → P (after_checks c l checks)
      go (Err refusal) e = keyless-has (number_of refusal) 0 0 l
      go (Ok None) e = keyless-has 0 0 0 l
      go (Ok (Some positions)) e = positions-have (report-has positions e) positions l
