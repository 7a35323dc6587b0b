-- What `are_rising` tells, with nothing behind.
use Rattle.gathering.proofs.ahead.look_ahead.Goals as goal

pub returns : goal.returns
returns c = rw c.are_rising-rising.ensures
