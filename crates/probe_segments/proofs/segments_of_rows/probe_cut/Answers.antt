-- Past both guards the estimates fit and all keys are numbers.
use mathlib.Core.Bool.{not}
use mathlib.Core.Path.{refl, ap, ◌∙◌}
use borrow.Author.Rules.{rules}
use Rattle.timeline.specs.inside.Estimates.{columns}
use Rattle.timeline.specs.inside.Segments.{segment_rows, filled_rows}
use Rattle.timeline.proofs.Segments.{same_rows}
use Rattle.probe_segments.specs.Segments.{track_of}
use Rattle.probe_segments.proofs.Segmenting.{not-fit, not-numbered, cut-needs, cut-so}
use Rattle.probe_segments.proofs.segments_of_rows.probe_cut.Goals as goal

pub shape_of-starts-then-not-cut_fits : goal.shape_of-starts-then-not-cut_fits
shape_of-starts-then-not-cut_fits c = refl

pub shape_of-ends-then-not-cut_fits : goal.shape_of-ends-then-not-cut_fits
shape_of-ends-then-not-cut_fits c = refl

pub shape_of-keys-then-not-cut_fits : goal.shape_of-keys-then-not-cut_fits
shape_of-keys-then-not-cut_fits c = refl

pub shape_of-confidences-then-not-cut_fits : goal.shape_of-confidences-then-not-cut_fits
shape_of-confidences-then-not-cut_fits c = refl

pub shape_of-counts-then-not-cut_fits : goal.shape_of-counts-then-not-cut_fits
shape_of-counts-then-not-cut_fits c = refl

pub returns-then-not-cut_fits : goal.returns-then-not-cut_fits
returns-then-not-cut_fits c =
    let args = c.args in
    not-fit (track_of args.threshold args.minimum args.duration args.key args.confidence) (columns args.middles.now args.numbers.now args.certainties.now) (segment_rows args.starts.now args.ends.now args.keys.now args.confidences.now args.counts.now) c.segment_room-room.ensures c.cut_fits.ensures (ap not c.if-not-cut_fits.true)

pub shape_of-starts-then-not-all_numbers : goal.shape_of-starts-then-not-all_numbers
shape_of-starts-then-not-all_numbers c = refl

pub shape_of-ends-then-not-all_numbers : goal.shape_of-ends-then-not-all_numbers
shape_of-ends-then-not-all_numbers c = refl

pub shape_of-keys-then-not-all_numbers : goal.shape_of-keys-then-not-all_numbers
shape_of-keys-then-not-all_numbers c = refl

pub shape_of-confidences-then-not-all_numbers : goal.shape_of-confidences-then-not-all_numbers
shape_of-confidences-then-not-all_numbers c = refl

pub shape_of-counts-then-not-all_numbers : goal.shape_of-counts-then-not-all_numbers
shape_of-counts-then-not-all_numbers c = refl

pub returns-then-not-all_numbers : goal.returns-then-not-all_numbers
returns-then-not-all_numbers c =
    let args = c.args in
    not-numbered (track_of args.threshold args.minimum args.duration args.key args.confidence) (columns args.middles.now args.numbers.now args.certainties.now) (segment_rows args.starts.now args.ends.now args.keys.now args.confidences.now args.counts.now) c.segment_room-room.ensures c.cut_fits.ensures (ap not c.if-not-cut_fits.false) c.all_numbers.ensures (ap not c.if-not-all_numbers.true)

pub fill_segments-requires : goal.fill_segments-requires
fill_segments-requires c =
    let args = c.args in
    cut-needs (track_of args.threshold args.minimum args.duration args.key args.confidence) (columns args.middles.now args.numbers.now args.certainties.now) (segment_rows args.starts.now args.ends.now args.keys.now args.confidences.now args.counts.now) c.segment_room-room.ensures c.cut_fits.ensures (ap not c.if-not-cut_fits.false) c.all_numbers.ensures (ap not c.if-not-all_numbers.false)

pub returns : goal.returns
returns c =
    let args = c.args in
    ap (filled_rows c.fill_segments.result) (same_rows (search rules) (search rules) (search rules) (search rules) (search rules))
    ∙ cut-so (track_of args.threshold args.minimum args.duration args.key args.confidence) (columns args.middles.now args.numbers.now args.certainties.now) (segment_rows args.starts.now args.ends.now args.keys.now args.confidences.now args.counts.now) c.segment_room-room.ensures c.cut_fits.ensures (ap not c.if-not-cut_fits.false) c.all_numbers.ensures (ap not c.if-not-all_numbers.false) c.track_of-track.ensures c.fill_segments.ensures.filled
