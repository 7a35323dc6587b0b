-- A weight that was kept, or found again.
use Rattle.onsets.proofs.Weighing.{read_at}
use Rattle.onsets.proofs.weighted.weight_from.Goals as goal

pub returns-then-j-weights : goal.returns-then-j-weights
returns-then-j-weights c = read_at _ c.args.weights.now c.args.j _ c.requires.1 c.if-j-weights.true
