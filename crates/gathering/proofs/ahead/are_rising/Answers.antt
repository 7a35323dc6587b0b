-- A pair a turn, joined to those before.
use mathlib.Core.Path.{◌≡◌, refl, sym, ap, ◌∙◌}
use mathlib.Core.Bool.{◌&&◌}
use Prim.Native.Nat.{ℕ, ◌+◌, ◌-◌}
use native.Mathlib.Omega.{arith}
use lib.ListN.{get_or}
use lib.Ieee.{nan, le}
use Rattle.laws.specs.Every.{every, every_pair}
use Rattle.laws.proofs.Every.{every_more, every-all}
use Rattle.gathering.proofs.ahead.are_rising.Invariants.{upward}
use Rattle.gathering.proofs.ahead.are_rising.Goals as goal

pub loop-i-init : goal.loop-i-init
unfolding every
loop-i-init c = (omega arith, refl)

pub loop-i-preserved : goal.loop-i-preserved
loop-i-preserved c =
    let i = c.loop-i.i in
    let next : i - 1 + 1 ≡ i = omega (arith, c.loop-i.auto.i) in
    let test = upward c.args.centres.now in
    (omega (arith, c.loop-i-test.true), every-all test (i - 1 + 1) (i + 1 - 1) (ap (λ (k : ℕ). c.loop-i.rising && le (get_or c.args.centres.now (i - 1) nan) (get_or c.args.centres.now k nan)) (sym next) ∙ every_more test (i - 1) c.loop-i.invariant.1) (omega (arith, c.loop-i.auto.i)))

pub returns : goal.returns
unfolding every_pair
returns c =
    let args = c.args in
    every-all (upward args.centres.now) (c.loop-i.i - 1) (args.frames - 1) c.loop-i.invariant.1 (omega (arith, c.loop-i.invariant.0, c.loop-i-test.false, c.loop-i.auto.i))
