-- The rows that hold the cut segments are shortened as the segments are.
use Rattle.timeline.specs.inside.Estimates.{estimates_in}
use Rattle.timeline.specs.inside.Lent.{columns_lent, segments_lent}
use Rattle.segments.specs.inside.Fill.{cut_of, filled_of}
use Rattle.segments.proofs.Fills.{cut-windows, cut-room, cut-numbered, cut-few, settled_same}
use Rattle.segments.proofs.fill.fill_segments.Goals as goal

pub shorten_segments-requires : goal.shorten_segments-requires
shorten_segments-requires c =
    let args = c.args in
    let columns = columns_lent args.columns in
    let segments = cut_of args.track (estimates_in columns args.found) in
    let before = segments_lent args.rows.now in
    let cut = c.cut_track-count.ensures.cut in
    (cut-room segments before cut, cut-numbered segments before cut, cut-few segments before cut (cut-windows args.track columns args.found c.requires.0))

pub returns-clause-filled : goal.returns-clause-filled
unfolding filled_of
returns-clause-filled c =
    let args = c.args in
    let segments = cut_of args.track (estimates_in (columns_lent args.columns) args.found) in
    settled_same segments (segments_lent args.rows.now) c.cut_track-count.ensures.cut args.track.minimum c.shorten_segments.ensures.filled
