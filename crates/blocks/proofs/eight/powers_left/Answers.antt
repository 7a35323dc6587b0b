-- The callee's definition four times.
use Rattle.std.proofs.Common.{rules}
use Rattle.blocks.specs.inside.Eight.{powers_left}
use Rattle.blocks.proofs.eight.powers_left.Goals as goal

pub returns : goal.returns
unfolding powers_left
returns c = search rules
