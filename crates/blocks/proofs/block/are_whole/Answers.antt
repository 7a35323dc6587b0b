-- A row a turn, joined to those before.
use native.Mathlib.Omega.{arith}
use mathlib.Core.Path.{refl}
use Rattle.laws.specs.Every.{every, every_entry}
use Rattle.laws.proofs.Every.{every_more, every-all}
use Rattle.blocks.specs.inside.Block.{all_whole}
use Rattle.blocks.proofs.block.are_whole.Goals as goal

pub loop-length-init : goal.loop-length-init
unfolding every
loop-length-init c = refl

pub loop-length-preserved : goal.loop-length-preserved
loop-length-preserved c = rw c.is_whole-sofar.ensures (every_more _ c.loop-length.length-index c.loop-length.invariant)

pub returns : goal.returns
unfolding all_whole every_entry
returns c = every-all _ c.loop-length.length-index _ c.loop-length.invariant (omega arith)
