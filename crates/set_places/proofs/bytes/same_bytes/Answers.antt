-- A byte a turn, joined to those before.
use Rattle.std.proofs.Common.{refl, arith, length}
use Rattle.laws.specs.Every.{every}
use Rattle.laws.proofs.Every.{every_more, every-all}
use Rattle.laws.proofs.Same.{same_at, as_long}
use Rattle.set_places.proofs.bytes.same_bytes.Goals as goal

pub loop-i-init : goal.loop-i-init
unfolding every
loop-i-init c = refl

pub loop-i-preserved : goal.loop-i-preserved
loop-i-preserved c = every_more (same_at c.args.a.now c.args.b.now) c.loop-i.i c.loop-i.invariant

pub returns : goal.returns
returns c =
    let a = c.args.a.now in
    let b = c.args.b.now in
    as_long a b c.requires (every-all (same_at a b) c.loop-i.i (length a) c.loop-i.invariant (omega arith))
