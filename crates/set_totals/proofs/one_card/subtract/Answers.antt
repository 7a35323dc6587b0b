-- A number a turn, from the front.
use mathlib.Core.Path.{◌≡◌, sym, subst}
use Prim.Native.Nat.{ℕ, ◌+◌, ◌-◌}
use native.Mathlib.Omega.{arith}
use lib.ListN.{get_or, set}
use Rattle.laws.proofs.Front.{Filled, filled-start, filled_more, filled-rest, filled-whole}
use Rattle.set_totals.specs.inside.Numbers.{summary_numbers, less}
use Rattle.set_totals.proofs.one_card.subtract.Invariants.{left}
use Rattle.set_totals.proofs.one_card.subtract.Goals as goal

pub loop-k-init : goal.loop-k-init
loop-k-init c = filled-start _ _

pub bounds-numbers-k : goal.bounds-numbers-k
bounds-numbers-k c = omega (arith, c.loop-k.invariant.long, c.requires.1.size)

pub overflow_sub-numbers : goal.overflow_sub-numbers
overflow_sub-numbers c =
    let untouched : get_or c.loop-k.numbers c.loop-k.k 0 ≡ get_or c.args.numbers.now c.loop-k.k 0 = filled-rest _ _ _ c.loop-k.k c.loop-k.k 0 c.loop-k.invariant (omega arith) in
    omega (arith, c.requires.1.enough c.loop-k.k c.loop-k-test.true, untouched)

pub loop-k-preserved : goal.loop-k-preserved
loop-k-preserved c =
    let args = c.args in
    let k = c.loop-k.k in
    let untouched : get_or c.loop-k.numbers k 0 ≡ get_or args.numbers.now k 0 = filled-rest _ _ _ k k 0 c.loop-k.invariant (omega arith) in
    subst (λ (n : ℕ). Filled (left args.others.now args.numbers.now) args.numbers.now (set c.loop-k.numbers k (n - get_or args.others.now k 0)) (k + 1)) (sym untouched) (filled_more _ _ _ _ c.loop-k.invariant (omega (arith, c.requires.1.size)))

pub shape_of-numbers : goal.shape_of-numbers
shape_of-numbers c = c.loop-k.invariant.long

pub returns : goal.returns
unfolding less
returns c = filled-whole _ _ _ _ summary_numbers c.loop-k.invariant (omega arith) (sym c.requires.1.size)
