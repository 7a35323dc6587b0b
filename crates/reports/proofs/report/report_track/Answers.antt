-- What was located is named.
use mathlib.Core.Path.{sym, ap, ap₂, subst, ◌∙◌}
use borrow.Author.Rules.{rules}
use Rattle.timeline.specs.inside.Estimates.{estimate_rows}
use Rattle.timeline.specs.inside.Segments.{segment_rows, Stretches, stretches_in, Stretched}
use Rattle.gathering.specs.Gather.{heard}
use Rattle.timeline.proofs.Estimates.{same_estimates}
use Rattle.timeline.proofs.Segments.{same_rows, stretched-there}
use Rattle.segments.proofs.Located.{located-room}
use Rattle.answers.specs.Answer.{counts}
use Rattle.reports.specs.Report.{named_in}
use Rattle.reports.specs.inside.Rows.{reported}
use Rattle.reports.proofs.Reports.{prepared-span, told-so, report-so}
use Rattle.reports.proofs.report.report_track.Goals as goal

pub locate_segments-located-requires : goal.locate_segments-located-requires
locate_segments-located-requires c = prepared-span c.span_of-span.ensures c.requires

pub name_keys-requires : goal.name_keys-requires
name_keys-requires c =
    let args = c.args in
    let before = segment_rows args.starts.now args.ends.now args.keys.now args.confidences.now args.counts.now in
    let there = located-room c.span_of-span.result c.track_of-track.result (heard args.frames args.centres.now args.values.now) (estimate_rows args.middles.now args.numbers.now args.certainties.now args.shapeless.now) before c.locate_segments-located.ensures.located in
    subst (λ (rows : Stretches). Stretched rows c.locate_segments-located.result.segments) (sym c.stretches-told.ensures) (stretched-there _ there)

pub returns : goal.returns
returns c =
    let args = c.args in
    let before = segment_rows args.starts.now args.ends.now args.keys.now args.confidences.now args.counts.now in
    let located = c.locate_segments-located.result in
    let many = counts args.frames located.estimates located.segments in
    let named = c.name_keys.ensures ∙ ap (λ (rows : Stretches). named_in args.settings.alternate_coverage_threshold args.verdict many (stretches_in rows located.segments)) c.stretches-told.ensures in
    ap₂ (reported c.name_keys.result) (same_estimates (search rules) (search rules) (search rules) (search rules)) (same_rows (search rules) (search rules) (search rules) (search rules) (search rules))
    ∙ report-so args.settings args.samples args.verdict (heard args.frames args.centres.now args.values.now) (estimate_rows args.middles.now args.numbers.now args.certainties.now args.shapeless.now) before c.span_of-span.ensures c.track_of-track.ensures c.locate_segments-located.ensures.located (told-so args.settings args.verdict args.frames _ located named)
