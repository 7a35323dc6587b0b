-- At the end all values are counted.
use Rattle.std.proofs.Common.{arith}
use Rattle.std.proofs.lemmas.Grind.{common_steps}
use Rattle.ranks.specs.inside.Search.{count_below}
use Rattle.medians.proofs.count_below.Goals as goal

pub returns : goal.returns
unfolding count_below
returns c = grind (arith, common_steps)
