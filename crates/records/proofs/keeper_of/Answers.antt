use Rattle.std.proofs.Common.{arith}
use Rattle.records.proofs.Places.{after-within, keeper-is}
use Rattle.records.proofs.keeper_of.Goals as goal

pub record_at-later-requires : goal.record_at-later-requires
record_at-later-requires c =
    let within = after-within c.args.i c.args.count c.requires.0 in
    omega (arith, within, c.place_after-after.ensures)

pub returns : goal.returns
returns c =
    let kept = keeper-is c.args.i c.args.count c.args.records.now c.requires.0 c.requires.1 in
    cc
