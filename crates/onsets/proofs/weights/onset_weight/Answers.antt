-- The callees' definitions, put together.
use Rattle.onsets.specs.Onsets.{onset_weight}
use Rattle.onsets.proofs.weights.onset_weight.Goals as goal

pub returns : goal.returns
unfolding onset_weight
returns c = rw (c.rise_weight.ensures, c.square_root-low.ensures, c.square_root-high.ensures)
