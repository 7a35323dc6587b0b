-- The alternate is that beside the reported key, and both are answered.
use mathlib.Core.Path.{ap, ◌∙◌}
use Rattle.keys.specs.declared.Key.{Key}
use Rattle.keys.specs.Numbers.{key_number}
use Rattle.timeline.specs.inside.Segments.{stretches, stretches_in}
use Rattle.alternates.specs.Alternate.{alternate_of}
use Rattle.answers.specs.Answer.{with_alternate}
use Rattle.reports.specs.Report.{named_in}
use Rattle.reports.proofs.report.name_keys.Goals as goal

pub returns : goal.returns
unfolding named_in
returns c =
    let args = c.args in
    let segments = stretches_in (stretches args.starts.now args.ends.now args.keys.now) args.counts.segments in
    c.with_alternate.ensures
    ∙ ap (with_alternate args.verdict c.reported_key-reported.result args.counts) c.alternate_key-other.ensures
    ∙ ap (λ (key : Key). with_alternate args.verdict key args.counts (alternate_of (key_number key) args.threshold segments)) c.reported_key-reported.ensures
