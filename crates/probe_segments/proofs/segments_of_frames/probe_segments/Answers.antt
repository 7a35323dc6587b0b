-- Past the guard there is room for all that is located.
use mathlib.Core.Bool.{not}
use mathlib.Core.Path.{refl, ap, ap₂, ◌∙◌}
use borrow.Author.Rules.{rules}
use Rattle.timeline.specs.inside.Estimates.{estimate_rows}
use Rattle.timeline.specs.inside.Segments.{segment_rows}
use Rattle.timeline.proofs.Estimates.{same_estimates}
use Rattle.timeline.proofs.Segments.{same_rows}
use Rattle.probe_segments.specs.Segments.{probed_track, probed, counted}
use Rattle.probe_segments.proofs.Segmenting.{not-run, locate-needs, located-so}
use Rattle.probe_segments.proofs.segments_of_frames.probe_segments.Goals as goal

pub shape_of-middles-then-not-can_run : goal.shape_of-middles-then-not-can_run
shape_of-middles-then-not-can_run c = refl

pub shape_of-numbers-then-not-can_run : goal.shape_of-numbers-then-not-can_run
shape_of-numbers-then-not-can_run c = refl

pub shape_of-certainties-then-not-can_run : goal.shape_of-certainties-then-not-can_run
shape_of-certainties-then-not-can_run c = refl

pub shape_of-shapeless-then-not-can_run : goal.shape_of-shapeless-then-not-can_run
shape_of-shapeless-then-not-can_run c = refl

pub shape_of-starts-then-not-can_run : goal.shape_of-starts-then-not-can_run
shape_of-starts-then-not-can_run c = refl

pub shape_of-ends-then-not-can_run : goal.shape_of-ends-then-not-can_run
shape_of-ends-then-not-can_run c = refl

pub shape_of-keys-then-not-can_run : goal.shape_of-keys-then-not-can_run
shape_of-keys-then-not-can_run c = refl

pub shape_of-confidences-then-not-can_run : goal.shape_of-confidences-then-not-can_run
shape_of-confidences-then-not-can_run c = refl

pub shape_of-counts-then-not-can_run : goal.shape_of-counts-then-not-can_run
shape_of-counts-then-not-can_run c = refl

pub returns-then-not-can_run : goal.returns-then-not-can_run
returns-then-not-can_run c =
    let args = c.args in
    not-run args.settings args.samples (probed_track args.settings args.samples args.key args.confidence) args.centres.now args.values.now (estimate_rows args.middles.now args.numbers.now args.certainties.now args.shapeless.now) (segment_rows args.starts.now args.ends.now args.keys.now args.confidences.now args.counts.now) c.span_of-span.ensures c.rows_asked-asked.ensures c.estimate_room-estimates.ensures c.segment_room-room.ensures c.can_run.ensures (ap not c.if-not-can_run.true)

pub locate_segments-located-requires : goal.locate_segments-located-requires
locate_segments-located-requires c =
    let args = c.args in
    locate-needs args.settings args.samples (probed_track args.settings args.samples args.key args.confidence) args.centres.now args.values.now (estimate_rows args.middles.now args.numbers.now args.certainties.now args.shapeless.now) (segment_rows args.starts.now args.ends.now args.keys.now args.confidences.now args.counts.now) c.span_of-span.ensures c.rows_asked-asked.ensures c.estimate_room-estimates.ensures c.segment_room-room.ensures c.can_run.ensures (ap not c.if-not-can_run.false) c.min-frames.ensures

pub returns : goal.returns
returns c =
    let args = c.args in
    ap₂ (probed (counted 0 c.locate_segments-located.result.estimates c.locate_segments-located.result.segments)) (same_estimates (search rules) (search rules) (search rules) (search rules)) (same_rows (search rules) (search rules) (search rules) (search rules) (search rules))
    ∙ located-so args.settings args.samples (probed_track args.settings args.samples args.key args.confidence) args.centres.now args.values.now (estimate_rows args.middles.now args.numbers.now args.certainties.now args.shapeless.now) (segment_rows args.starts.now args.ends.now args.keys.now args.confidences.now args.counts.now) c.span_of-span.ensures c.rows_asked-asked.ensures c.estimate_room-estimates.ensures c.segment_room-room.ensures c.can_run.ensures (ap not c.if-not-can_run.false) c.min-frames.ensures c.probed_track-track.ensures c.locate_segments-located.ensures.located
