-- Groups where there is an estimate, the whole track where there is none.
use lib.Ieee.{of_bits}
use Rattle.timeline.specs.inside.Lent.{columns_lent, segments_lent}
use Rattle.segments.proofs.Fills.{groups-cut, whole-cut}
use Rattle.segments.proofs.fill.cut_track.Goals as goal

pub returns-then-found-gt0-clause-cut : goal.returns-then-found-gt0-clause-cut
returns-then-found-gt0-clause-cut c =
    let args = c.args in
    groups-cut args.track (columns_lent args.columns) args.found (segments_lent args.rows.now) c.if-found-gt0.true c.cut_groups.ensures.filled

pub returns-clause-cut : goal.returns-clause-cut
unfolding of_bits
returns-clause-cut c =
    let args = c.args in
    whole-cut args.track (columns_lent args.columns) args.found (segments_lent args.rows.now) c.if-found-gt0.false c.requires.2 c.put.ensures.rows
