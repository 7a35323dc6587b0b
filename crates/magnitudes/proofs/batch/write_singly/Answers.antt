-- A row a turn.
use borrow.Author.Rules.{rules}
use native.Mathlib.Omega.{arith}
use mathlib.Core.Path.{refl}
use Rattle.laws.proofs.Turns.{turns-again, turns-end}
use Rattle.magnitudes.specs.Magnitudes.{row_magnitude}
use Rattle.magnitudes.specs.InFours.{put_singly}
use Rattle.magnitudes.proofs.batch.write_singly.Goals as goal

pub loop-k-init : goal.loop-k-init
unfolding put_singly
loop-k-init c = (refl, refl)

pub loop-k-preserved : goal.loop-k-preserved
unfolding row_magnitude
loop-k-preserved c =
    let turn = c.loop-k in
    (turns-again _ _ turn.k turn.invariant.0 (omega arith) (rw (c.last_magnitude.ensures, c.run_row-delay.ensures) refl), search rules)

pub returns : goal.returns
returns c = let end = c.loop-k in turns-end _ _ end.k end.invariant.0 (omega arith)
