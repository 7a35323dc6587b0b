-- A byte a turn, joined to those before.
use Rattle.std.proofs.Common.{refl, arith, length}
use Rattle.laws.specs.Every.{every, every_entry}
use Rattle.laws.proofs.Every.{every_more, every-all}
use Rattle.set_places.specs.Places.{all_zero}
use Rattle.set_places.proofs.bytes.all_zero.Invariants.{zero_at}
use Rattle.set_places.proofs.bytes.all_zero.Goals as goal

pub loop-byte-init : goal.loop-byte-init
unfolding every
loop-byte-init c = refl

pub loop-byte-preserved : goal.loop-byte-preserved
loop-byte-preserved c = every_more (zero_at c.args.bytes.now) c.loop-byte.byte-index c.loop-byte.invariant

pub returns : goal.returns
unfolding all_zero every_entry
returns c =
    let bytes = c.args.bytes.now in
    every-all (zero_at bytes) c.loop-byte.byte-index (length bytes) c.loop-byte.invariant (omega arith)
