-- A row a turn.
use native.Mathlib.Omega.{arith}
use mathlib.Core.Path.{refl}
use lib.Ieee.{of_bits}
use Rattle.laws.proofs.Turns.{turns-start, turns-again, turns-end}
use Rattle.filters.specs.Classes.{class_added, added_by_class}
use Rattle.goertzel.specs.Goertzel.{contributions_by_class}
use Rattle.goertzel.proofs.sum_contributions.Goals as goal

pub loop-k-init : goal.loop-k-init
unfolding contributions_by_class added_by_class of_bits
loop-k-init c = turns-start _ _ _

pub loop-k-preserved : goal.loop-k-preserved
unfolding class_added
loop-k-preserved c =
    let turn = c.loop-k in
    turns-again _ _ turn.k turn.invariant c.loop-k-test.true (rw (c.weighted.ensures, c.class_at-class.ensures.0, c.contribution.ensures, c.row_at-row.ensures) refl)

pub returns : goal.returns
returns c = let last = c.loop-k in turns-end _ _ last.k last.invariant (omega arith)
