-- From the verdict on a track to the answer, written from the Rust's `analyze`. Definitions only.
use Rattle.std.specs.Prelude.{ℕ, List, length, Float}
use Rattle.keys.specs.Numbers.{key_number}
use Rattle.calls.specs.declared.Settings.{Settings}
use Rattle.timeline.specs.declared.estimate.Estimate.{Estimate}
use Rattle.timeline.specs.declared.segment.Segment.{Segment}
use Rattle.gathering.specs.Gather.{Heard}
use Rattle.windows.specs.Span.{span_of}
use Rattle.windows.specs.Run.{estimates_of}
use Rattle.groups.specs.Groups.{first_segments}
use Rattle.shortening.specs.Shorten.{shortened_of, left_in}
use Rattle.longest.specs.Longest.{reported_of}
use Rattle.alternates.specs.Alternate.{alternate_of}
use Rattle.answers.specs.Answer.{counts, with_alternate}
use Rattle.answers.specs.declared.answer.AnalyseResult.{AnalyseResult}
use Rattle.answers.specs.declared.answer.Counts.{Counts}
use Rattle.verdicts.specs.declared.verdict.Verdict.{Verdict}

-- the answer of these segments: the reported key, and the alternate beside it
unfoldable pub named_in : Float → Verdict → Counts → List Segment → AnalyseResult
named_in threshold v c segments =
    let key = reported_of v.key segments in
    with_alternate v key c (alternate_of (key_number key) threshold segments)

-- what is answered, and what the rows of estimates and of segments begin with then
pub record Report : Type 0 where
  pub answer : AnalyseResult
  pub estimates : List Estimate
  pub segments : List Segment

-- the same, from its parts
abbrev pub report : AnalyseResult → List Estimate → List Segment → Report
report answer estimates segments = record { answer = answer; estimates = estimates; segments = segments }

-- the windows' estimates cut into segments, the short ones joined, the keys named
unfoldable pub report_of : Settings → ℕ → Verdict → Heard → Report
report_of s count v h =
    let span = span_of s count in
    let found = estimates_of span h in
    let cut = first_segments s.segment_confidence_threshold span.duration v.key v.confidence found in
    let segments = shortened_of s.minimum_segment_seconds cut in
    report (named_in s.alternate_coverage_threshold v (counts h.frames (length found) (length segments)) segments) found (left_in s.minimum_segment_seconds cut)
