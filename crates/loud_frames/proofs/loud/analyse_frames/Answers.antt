-- A law for each way out.
use Rattle.calls.specs.inside.Parts.{rows}
use Rattle.timeline.specs.inside.Estimates.{estimate_rows}
use Rattle.timeline.specs.inside.Segments.{segment_rows}
use Rattle.rooms.specs.Lent.{lent}
use Rattle.loud_frames.proofs.Louds.{none-loud, faint-so, heard-so}
use Rattle.loud_frames.proofs.loud.analyse_frames.Goals as goal

pub returns-then-frames-eq0 : goal.returns-then-frames-eq0
returns-then-frames-eq0 c =
    let args = c.args in
    none-loud args.settings args.samples args.frames (lent (rows args.centres.now args.values.now args.energies.now) args.work.now (estimate_rows args.middles.now args.numbers.now args.certainties.now args.shapeless.now) (segment_rows args.starts.now args.ends.now args.keys.now args.confidences.now args.counts.now)) c.if-frames-eq0.true c.keyless.ensures

pub returns-then-is_faint : goal.returns-then-is_faint
returns-then-is_faint c =
    let args = c.args in
    faint-so args.settings args.samples args.frames (lent (rows args.centres.now args.values.now args.energies.now) args.work.now (estimate_rows args.middles.now args.numbers.now args.certainties.now args.shapeless.now) (segment_rows args.starts.now args.ends.now args.keys.now args.confidences.now args.counts.now)) c.if-frames-eq0.false c.weighted_medians-medians.ensures.0 c.is_faint.ensures c.weighted_medians-medians.ensures.1 c.if-is_faint.true c.keyless-then-is_faint.ensures

pub report_track-requires : goal.report_track-requires
report_track-requires c = c.requires.prepared

pub shape_of-work : goal.shape_of-work
shape_of-work c = c.work-1.given

pub shape_of-middles : goal.shape_of-middles
shape_of-middles c = c.middles-1.given

pub shape_of-numbers : goal.shape_of-numbers
shape_of-numbers c = c.numbers-1.given

pub shape_of-certainties : goal.shape_of-certainties
shape_of-certainties c = c.certainties-1.given

pub shape_of-shapeless : goal.shape_of-shapeless
shape_of-shapeless c = c.shapeless-1.given

pub shape_of-starts : goal.shape_of-starts
shape_of-starts c = c.starts-1.given

pub shape_of-ends : goal.shape_of-ends
shape_of-ends c = c.ends-1.given

pub shape_of-keys : goal.shape_of-keys
shape_of-keys c = c.keys-1.given

pub shape_of-confidences : goal.shape_of-confidences
shape_of-confidences c = c.confidences-1.given

pub shape_of-counts : goal.shape_of-counts
shape_of-counts c = c.counts-1.given

pub returns : goal.returns
returns c =
    let args = c.args in
    heard-so args.settings args.samples args.frames (lent (rows args.centres.now args.values.now args.energies.now) args.work.now (estimate_rows args.middles.now args.numbers.now args.certainties.now args.shapeless.now) (segment_rows args.starts.now args.ends.now args.keys.now args.confidences.now args.counts.now)) c.if-frames-eq0.false c.weighted_medians-medians.ensures.0 c.is_faint.ensures c.weighted_medians-medians.ensures.1 c.if-is_faint.false c.judge_medians-verdict.ensures c.report_track.ensures
