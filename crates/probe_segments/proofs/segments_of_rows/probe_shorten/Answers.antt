-- Past the guard all keys are numbers and the counts fit.
use mathlib.Core.Bool.{not}
use mathlib.Core.Path.{refl, ap, ◌∙◌}
use borrow.Author.Rules.{rules}
use Rattle.timeline.specs.inside.Segments.{segment_rows, filled_rows}
use Rattle.timeline.proofs.Segments.{same_rows}
use Rattle.probe_segments.proofs.Segmenting.{not-shortened, shorten-needs, shortened}
use Rattle.probe_segments.proofs.segments_of_rows.probe_shorten.Goals as goal

pub shape_of-starts-then-not-can_shorten : goal.shape_of-starts-then-not-can_shorten
shape_of-starts-then-not-can_shorten c = refl

pub shape_of-ends-then-not-can_shorten : goal.shape_of-ends-then-not-can_shorten
shape_of-ends-then-not-can_shorten c = refl

pub shape_of-keys-then-not-can_shorten : goal.shape_of-keys-then-not-can_shorten
shape_of-keys-then-not-can_shorten c = refl

pub shape_of-confidences-then-not-can_shorten : goal.shape_of-confidences-then-not-can_shorten
shape_of-confidences-then-not-can_shorten c = refl

pub shape_of-counts-then-not-can_shorten : goal.shape_of-counts-then-not-can_shorten
shape_of-counts-then-not-can_shorten c = refl

pub returns-then-not-can_shorten : goal.returns-then-not-can_shorten
returns-then-not-can_shorten c =
    let args = c.args in
    not-shortened args.least (segment_rows args.starts.now args.ends.now args.keys.now args.confidences.now args.counts.now) c.segment_room-count.ensures c.can_shorten.ensures (ap not c.if-not-can_shorten.true)

pub shorten_segments-requires : goal.shorten_segments-requires
shorten_segments-requires c =
    let args = c.args in
    shorten-needs args.least (segment_rows args.starts.now args.ends.now args.keys.now args.confidences.now args.counts.now) c.segment_room-count.ensures c.can_shorten.ensures (ap not c.if-not-can_shorten.false)

pub returns : goal.returns
returns c =
    let args = c.args in
    ap (filled_rows c.shorten_segments.result) (same_rows (search rules) (search rules) (search rules) (search rules) (search rules))
    ∙ shortened args.least (segment_rows args.starts.now args.ends.now args.keys.now args.confidences.now args.counts.now) c.segment_room-count.ensures c.can_shorten.ensures (ap not c.if-not-can_shorten.false) c.shorten_segments.ensures.filled
