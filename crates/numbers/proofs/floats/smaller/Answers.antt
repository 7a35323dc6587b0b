-- The tests joined are those of the definition.
use mathlib.Core.Bool.{true, false}
use Rattle.numbers.proofs.Tests.{smaller-is}
use Rattle.numbers.proofs.floats.smaller.Goals as goal

pub returns-then-is_nan-is_below : goal.returns-then-is_nan-is_below
returns-then-is_nan-is_below g c =
    let laws = g.met.F.Floating in
    smaller-is _ _ c.is_nan.ensures (rw laws.equal at c.eq.ensures) true c.is_below.ensures c.is_negative.ensures c.if-is_nan-is_below.true

pub returns-else-is_nan-is_below : goal.returns-else-is_nan-is_below
returns-else-is_nan-is_below g c =
    let laws = g.met.F.Floating in
    smaller-is _ _ c.is_nan.ensures (rw laws.equal at c.eq.ensures) false c.is_below.ensures c.is_negative.ensures c.if-is_nan-is_below.false
