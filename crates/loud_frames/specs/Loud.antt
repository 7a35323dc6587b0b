-- From the loud frames to the outcome of an analysis, written from the Rust's `analyze`. Definitions only.
use Rattle.std.specs.Prelude.{ℕ, cond, List, map, eqb, length, replicate, Float}
use Rattle.laws.specs.Front.{front}
use Rattle.laws.specs.Values.{plus_zero}
use Rattle.calls.specs.declared.Settings.{Settings}
use Rattle.one_frame.specs.declared.frame.Row.{Row}
use Rattle.onsets.specs.Weighted.{weighted_medians}
use Rattle.timeline.specs.Estimates.{holding_estimates}
use Rattle.timeline.specs.Segments.{holding_segments}
use Rattle.gathering.specs.Gather.{Heard, heard}
use Rattle.rooms.specs.Lent.{Lent, lent}
use Rattle.verdicts.specs.Verdict.{faint, verdict_of}
use Rattle.answers.specs.Answer.{keyless}
use Rattle.answers.specs.declared.answer.AnalyseResult.{AnalyseResult}
use Rattle.reports.specs.Report.{Report, report_of}

-- what the call answers, and what it leaves in all that it was lent
pub record AnalyseOutcome : Type 0 where
  pub answer : AnalyseResult
  pub lent : Lent

-- both together
abbrev pub analyse_outcome : AnalyseResult → Lent → AnalyseOutcome
analyse_outcome answer lent = record { answer = answer; lent = lent }

-- a report, with its estimates and segments in front of what stood in their rows
abbrev pub report_left : Lent → Report → AnalyseOutcome
report_left l r = analyse_outcome r.answer (lent l.frames l.work (holding_estimates r.estimates l.estimates) (holding_segments r.segments l.segments))

-- the chromas of the loud frames
abbrev pub chromas_of : List Row → List (List Float)
chromas_of = map (λ (r : Row). r.values)

-- what windows hear of them
abbrev pub heard_of : List Row → Heard
heard_of found = heard (length found) (map (λ (r : Row). r.centre) found) (chromas_of found)

-- the medians of the weighted chromas decide: the empty analysis where they are faint
abbrev pub medians_analysed : Settings → ℕ → List Row → List Float → Lent → AnalyseOutcome
medians_analysed s count found medians l =
    cond (faint medians) (analyse_outcome (keyless 0 0 (length found)) l)
    (report_left l (report_of s count (verdict_of medians (chromas_of found) (length found)) (heard_of found)))

-- the empty analysis where no frame is loud; the work numbers that the medians used end zeroed
unfoldable pub loud_analysed : Settings → ℕ → List Row → Lent → AnalyseOutcome
loud_analysed s count found l =
    cond (eqb (length found) 0) (analyse_outcome (keyless 0 0 0) l)
    (medians_analysed s count found (weighted_medians (chromas_of found) (map (λ (r : Row). r.energy) found) (length found)) (lent l.frames (front (replicate (length found) plus_zero) l.work) l.estimates l.segments))
