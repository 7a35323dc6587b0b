-- From the loud frames to the answer: none, faint medians, or a report.
use mathlib.Core.Path.{◌≡◌, sym, ap, ◌∙◌}
use mathlib.Core.Bool.{Bool, true, false}
use mathlib.Core.List.{List, map}
use Prim.Native.Nat.{ℕ}
use borrow.Author.Tests.{eq-eqb, ne_eqb}
use lib.Dec.{eqb}
use lib.ListN.{length, replicate}
use lib.Ieee.{Float}
use Rattle.laws.specs.Front.{front}
use Rattle.laws.specs.Values.{plus_zero}
use Rattle.calls.specs.declared.Settings.{Settings}
use Rattle.one_frame.specs.declared.frame.Row.{Row}
use Rattle.onsets.specs.Weighted.{weighted_medians}
use Rattle.timeline.specs.Estimates.{EstimateRows}
use Rattle.timeline.specs.Segments.{SegmentRows}
use Rattle.rooms.specs.Lent.{Lent, lent}
use Rattle.rooms.specs.inside.With.{with_segments, work_zeroed}
use Rattle.verdicts.specs.Verdict.{faint, verdict_of}
use Rattle.answers.specs.Answer.{keyless}
use Rattle.answers.specs.declared.answer.AnalyseResult.{AnalyseResult}
use Rattle.verdicts.specs.declared.verdict.Verdict.{Verdict}
use Rattle.reports.specs.Report.{Report, report_of}
use Rattle.reports.specs.inside.Rows.{Reported, reported, reported_in}
use Rattle.reports.proofs.Reports.{report-alike}
use Rattle.loud_frames.specs.Loud.{AnalyseOutcome, analyse_outcome, chromas_of, heard_of, loud_analysed}
use Rattle.loud_frames.specs.inside.Rows.{frames_in, heard_in}
use Rattle.loud_frames.proofs.Read.{long, medians-same, verdict-same, heard-same}

module _ (s : Settings) (count frames : ℕ) (l : Lent) where
  abbrev found : List Row
  found = frames_in l.frames frames

  abbrev medians : List Float
  medians = weighted_medians (chromas_of found) (map (λ (r : Row). r.energy) found) (length found)

  counted : {b : Bool} → eqb frames 0 ≡ b → eqb (length found) 0 ≡ b
  counted e = ap (λ (n : ℕ). eqb n 0) (long l.frames frames) ∙ e

  pub none-loud : {r : AnalyseResult} → frames ≡ 0 → r ≡ keyless 0 0 0 → analyse_outcome r l ≡ loud_analysed s count found l
  unfolding loud_analysed
  none-loud none e = ap (λ (a : AnalyseResult). analyse_outcome a l) e ∙ rw (counted (eq-eqb frames 0 none))

  module _ (some : frames ≡ 0 → ⊥) {m : List Float} {flag : Bool} {work : List Float} (all : m ≡ weighted_medians l.frames.values l.frames.energies frames) (told : flag ≡ faint m) (zeroed : work ≡ front (replicate frames plus_zero) l.work) where
    known : m ≡ medians
    known = all ∙ medians-same l.frames frames

    decided : {b : Bool} → flag ≡ b → faint medians ≡ b
    decided f = ap faint (sym known) ∙ sym told ∙ f

    worked : work ≡ front (replicate (length found) plus_zero) l.work
    worked = zeroed ∙ ap (λ (n : ℕ). front (replicate n plus_zero) l.work) (sym (long l.frames frames))

    pub faint-so : {r : AnalyseResult} → flag ≡ true → r ≡ keyless 0 0 frames → analyse_outcome r (lent l.frames work l.estimates l.segments) ≡ loud_analysed s count found l
    unfolding loud_analysed
    faint-so {r} f e =
        ap (λ (a : AnalyseResult). analyse_outcome a (lent l.frames work l.estimates l.segments)) (e ∙ ap (λ (n : ℕ). keyless 0 0 n) (sym (long l.frames frames)))
        ∙ ap (λ (w : List Float). analyse_outcome (keyless 0 0 (length found)) (lent l.frames w l.estimates l.segments)) worked
        ∙ rw (counted (ne_eqb frames 0 some), decided f)

    -- a report in its rows, with what else is lent
    abbrev left : Reported → AnalyseOutcome
    left r = analyse_outcome r.answer (with_segments r.estimates r.segments (work_zeroed (length found) l))

    pub heard-so : {r : AnalyseResult} {v : Verdict} {e : EstimateRows} {segments : SegmentRows} → flag ≡ false → v ≡ verdict_of m l.frames.values frames → reported r e segments ≡ reported_in (report_of s count v (heard_in frames l.frames)) l.estimates l.segments → analyse_outcome r (lent l.frames work e segments) ≡ loud_analysed s count found l
    unfolding loud_analysed
    heard-so {r} {v} {e} {segments} f judged told =
        let same : report_of s count v (heard_in frames l.frames) ≡ report_of s count (verdict_of medians (chromas_of found) (length found)) (heard_of found) = report-alike s count v (heard-same l.frames frames) ∙ ap (λ (x : Verdict). report_of s count x (heard_of found)) (judged ∙ ap (λ (x : List Float). verdict_of x l.frames.values frames) known ∙ verdict-same l.frames frames medians) in
        ap (λ (w : List Float). analyse_outcome r (lent l.frames w e segments)) worked
        ∙ ap left (told ∙ ap (λ (x : Report). reported_in x l.estimates l.segments) same)
        ∙ rw (counted (ne_eqb frames 0 some), decided f)
