-- A report with its estimates and segments in lent rows, and what the segments rest on, as the code has them. No promise names it. Definitions only.
use Rattle.calls.specs.declared.Settings.{Settings}
use Rattle.timeline.specs.Estimates.{EstimateRows, holding_estimates}
use Rattle.timeline.specs.Segments.{SegmentRows, holding_segments}
use Rattle.windows.specs.declared.span.Span.{Span}
use Rattle.segments.specs.declared.fill.Track.{Track}
use Rattle.answers.specs.declared.answer.AnalyseResult.{AnalyseResult}
use Rattle.verdicts.specs.declared.verdict.Verdict.{Verdict}
use Rattle.reports.specs.Report.{Report}

-- what the segments rest on beside the estimates
unfoldable pub track_of : Settings → Span → Verdict → Track
track_of s span v =
    record {
      threshold = s.segment_confidence_threshold;
      minimum = s.minimum_segment_seconds;
      duration = span.duration;
      key = v.key;
      confidence = v.confidence;
    }

-- what is answered, and the estimates and segments that are left
pub record Reported : Type 0 where
  pub answer : AnalyseResult
  pub estimates : EstimateRows
  pub segments : SegmentRows

-- the same, from its parts
abbrev pub reported : AnalyseResult → EstimateRows → SegmentRows → Reported
reported answer estimates segments = record { answer = answer; estimates = estimates; segments = segments }

-- a report in front of what stood in the rows
abbrev pub reported_in : Report → EstimateRows → SegmentRows → Reported
reported_in r estimates segments = reported r.answer (holding_estimates r.estimates estimates) (holding_segments r.segments segments)
