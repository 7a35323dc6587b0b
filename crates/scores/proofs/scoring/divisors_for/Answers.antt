-- The array is written from the front, a divisor a turn, and each is asked; the code's energies are the definition's.
use mathlib.Core.Path.{◌≡◌, refl, ap, ◌∙◌}
use native.Mathlib.Omega.{arith}
use Rattle.laws.specs.Every.{any_below}
use Rattle.laws.proofs.Every.{any-more}
use Rattle.laws.proofs.Front.{filled-start, filled_more, filled-whole}
use Rattle.scores.specs.inside.Constants.{energies}
use Rattle.scores.specs.inside.Modes.{divisors_of}
use Rattle.scores.proofs.scoring.divisors_for.Goals as goal

pub loop-k-init : goal.loop-k-init
unfolding any_below
loop-k-init c = (filled-start _ _, refl)

pub loop-k-preserved : goal.loop-k-preserved
loop-k-preserved c =
    let turn = c.loop-k in
    let next = c.divisor_of-next.ensures in
    (rw next (filled_more _ _ _ turn.k turn.invariant.0 (omega arith)), rw next (any-more _ turn.k turn.invariant.1))

pub returns : goal.returns
unfolding divisors_of energies
returns c =
    let done = c.loop-k in
    let all : done.k ≡ 17 = omega arith in
    let values = filled-whole _ _ _ done.k 17 done.invariant.0 all refl in
    let asked = done.invariant.1 ∙ ap (any_below _) all in
    λ i. record { values = values i; held_up = asked i }
