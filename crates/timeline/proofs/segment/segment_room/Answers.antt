-- What the calls ensure, put together.
use Rattle.timeline.proofs.segment.segment_room.Goals as goal

pub returns : goal.returns
returns c = cc
