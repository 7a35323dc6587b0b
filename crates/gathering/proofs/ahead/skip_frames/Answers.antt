-- The frame that `first_from` finds.
use Rattle.gathering.proofs.ahead.skip_frames.Goals as goal

pub returns : goal.returns
returns c = rw c.first_from-from.ensures
