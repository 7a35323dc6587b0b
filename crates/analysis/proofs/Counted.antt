-- The counts of a report's segments sum to its estimates; an answer without a key has neither.
use mathlib.Core.Path.{refl, ap, ◌∙◌}
use Prim.Native.Nat.{ℕ}
use lib.ListN.{length}
use Rattle.laws.specs.Front.{list}
use Rattle.calls.specs.declared.Settings.{Settings}
use Rattle.timeline.specs.Counts.{total_windows}
use Rattle.windows.specs.Span.{span_of}
use Rattle.windows.specs.Run.{estimates_of}
use Rattle.gathering.specs.Gather.{Heard}
use Rattle.segments.specs.inside.Fill.{segments_of}
use Rattle.segments.proofs.Demand.{segments-count}
use Rattle.verdicts.specs.declared.verdict.Verdict.{Verdict}
use Rattle.answers.specs.Answer.{keyless, with_alternate}
use Rattle.rooms.specs.Lent.{Lent}
use Rattle.reports.specs.Report.{named_in, report_of}
use Rattle.reports.specs.inside.Rows.{track_of}
use Rattle.loud_frames.specs.Loud.{analyse_outcome, report_left}
use Rattle.analysis.specs.Demand.{WindowsCounted, AnalysisCounts}
use Rattle.analysis.proofs.Ways.{read_left, analysed-has}

keyless-counts : (refusal position frames : ℕ) (l : Lent) → WindowsCounted (analyse_outcome (keyless refusal position frames) l)
unfolding keyless list total_windows
keyless-counts refusal position frames l = refl

report-counts : (s : Settings) (count : ℕ) (v : Verdict) (h : Heard) (l : Lent) → WindowsCounted (report_left l (report_of s count v h))
unfolding report_of named_in with_alternate segments_of track_of
report-counts s count v h l = ap total_windows (read_left s count v h l) ∙ segments-count (track_of s (span_of s count) v) (estimates_of (span_of s count) h)

pub analysis-counts : AnalysisCounts
analysis-counts c l = analysed-has c WindowsCounted keyless-counts l (λ _ _. report-counts c.settings (length c.samples))
