-- At the end all values are counted.
use Rattle.std.proofs.Common.{arith}
use Rattle.std.proofs.lemmas.Grind.{common_steps}
use Rattle.ranks.specs.inside.Narrow.{count_under}
use Rattle.ranks.proofs.narrowing.count_under.Goals as goal

pub returns-clause-under : goal.returns-clause-under
unfolding count_under
returns-clause-under c = grind (arith, common_steps)
