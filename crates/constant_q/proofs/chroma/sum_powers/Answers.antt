-- A row a turn, added or passed over.
use Rattle.std.proofs.Common.{refl, arith}
use lib.Ieee.{of_bits}
use Rattle.laws.proofs.Turns.{turns-start, turns-again, turns-end}
use Rattle.filters.specs.Classes.{class_added}
use Rattle.constant_q.specs.inside.Powers.{powers_by_class}
use Rattle.laws.proofs.Table.{told}
use Rattle.constant_q.proofs.chroma.sum_powers.Goals.{then-half_is_left, else-half_is_left}
use Rattle.constant_q.proofs.chroma.sum_powers.Goals as goal

pub loop-k-init : goal.loop-k-init
unfolding powers_by_class of_bits
loop-k-init c = turns-start _ _ _

pub loop-k-preserved : goal.loop-k-preserved
unfolding class_added
loop-k-preserved c =
    turns-again _ _ c.loop-k.k c.loop-k.invariant (omega arith)
    (elim c.if-half_is_left.branch [
      | then-half_is_left w ↦ rw (told c.half_is_left.ensures w.if-half_is_left.true, w.sums-is, w.class_at.ensures.0) refl
      | else-half_is_left w ↦ rw (told c.half_is_left.ensures w.if-half_is_left.false, w.sums-is) refl
    ])

pub returns : goal.returns
returns c = turns-end _ _ c.loop-k.k c.loop-k.invariant (omega arith)
