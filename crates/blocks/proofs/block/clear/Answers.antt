-- Each literal is a class's start.
use lib.Ieee.{of_bits}
use Rattle.laws.specs.Front.{list}
use Rattle.blocks.specs.inside.Block.{empty_block}
use Rattle.blocks.proofs.block.clear.Goals as goal

pub returns : goal.returns
unfolding empty_block list of_bits
returns c = c.copy_from_slice.ensures.after
