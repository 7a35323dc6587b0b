-- The array is written from the front, a divisor a turn; the code's places are the definition's.
use mathlib.Core.Path.{refl}
use native.Mathlib.Omega.{arith}
use Prim.Native.Nat.{◌<◌}
use Rattle.laws.proofs.Front.{filled-start, filled_more, filled-whole}
use Rattle.scores.specs.inside.Constants.{energy_places, place_at}
use Rattle.scores.specs.inside.Modes.{divisors_at}
use Rattle.scores.proofs.Constants.{constants-of-profiles}
use Rattle.scores.proofs.scoring.divisors_at.Goals as goal

pub loop-root-init : goal.loop-root-init
loop-root-init c = filled-start _ _

pub bounds-divisors-places : goal.bounds-divisors-places
unfolding energy_places
bounds-divisors-places c =
    let within : place_at c.args.row c.loop-root.root < 17 = constants-of-profiles.place c.args.row c.loop-root.root c.requires c.loop-root-test.true in
    within

pub loop-root-preserved : goal.loop-root-preserved
loop-root-preserved c =
    let turn = c.loop-root in
    filled_more _ _ _ turn.root turn.invariant (omega arith)

pub returns : goal.returns
unfolding divisors_at energy_places
returns c = filled-whole _ _ _ c.loop-root.root 12 c.loop-root.invariant (omega arith) refl
