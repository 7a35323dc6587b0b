-- A position a turn; one not reached yet still has its old sums.
use native.Mathlib.Omega.{arith}
use native.Mathlib.Nat.{le_refl}
use mathlib.Core.List.{[]}
use Rattle.laws.proofs.Front.{filled-start, filled_more, filled-rest, filled-whole}
use Rattle.filters.specs.Classes.{class_added}
use Rattle.blocks.specs.inside.Block.{row_added}
use Rattle.blocks.proofs.block.add_row.Goals as goal

pub loop-j-init : goal.loop-j-init
loop-j-init c = filled-start _ _

pub loop-j-preserved : goal.loop-j-preserved
unfolding class_added
loop-j-preserved c =
    let turn = c.loop-j in
    let old = filled-rest _ _ _ turn.j turn.j [] turn.invariant (le_refl turn.j) in
    rw (c.class_at-class.ensures.0, old) (filled_more _ _ _ turn.j turn.invariant (omega arith))

pub returns : goal.returns
unfolding row_added
returns c = let last = c.loop-j in filled-whole _ _ _ last.j 8 last.invariant (omega arith) (omega arith)
