-- What the calls ensure, put together.
use Rattle.timeline.specs.Segments.{segment_in}
use Rattle.timeline.proofs.segment_rows.LentSegments.at.Goals as goal

pub returns : goal.returns
unfolding segment_in
returns c = cc
