-- The sums from `add_twelve`, and one frame more.
use Rattle.gathering.proofs.gather.with_frame.Goals as goal

pub returns : goal.returns
returns c = rw c.add_twelve-chroma.ensures
