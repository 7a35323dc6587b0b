use Rattle.std.proofs.Common.{◌≡◌, ◌∙◌, ap, sym, length}
use Rattle.records.specs.inside.Steps.{joined_records}
use Rattle.records.proofs.Shortened.{now-room, short-within, keeper-there, both-fit, shortening-more, shortening-few, shortening-done}
use Rattle.records.proofs.shorten_records.Goals as goal

pub returns-then-i-n : goal.returns-then-i-n
returns-then-i-n c = shortening-done c.loop-n.invariant c.requires.0 c.first_short-i.ensures c.if-i-n.true

pub keeper_of-p-requires : goal.keeper_of-p-requires
keeper_of-p-requires c = (short-within c.loop-n.invariant c.requires.0 c.first_short-i.ensures c.if-i-n.false, now-room c.loop-n.invariant c.requires.0)

pub join_records-requires : goal.join_records-requires
join_records-requires c =
    let s = c.loop-n.invariant in
    let room = c.requires.0 in
    let there = keeper-there s room c.loop-n-test.true (short-within s room c.first_short-i.ensures c.if-i-n.false) c.keeper_of-p.ensures in
    (there, now-room s room, both-fit s room c.keeper_of-p.result there c.requires.1)

pub loop-n-preserved : goal.loop-n-preserved
loop-n-preserved c =
    let long : length (joined_records c.keeper_of-p.result c.loop-n.n c.loop-n.records) ≡ length c.loop-n.records = ap length (sym c.join_records.ensures) ∙ c.join_records.auto.records in
    rw c.join_records.ensures (shortening-more c.loop-n.invariant c.requires.0 c.loop-n-test.true c.first_short-i.ensures c.if-i-n.false c.keeper_of-p.ensures long)

pub returns : goal.returns
returns c = shortening-few c.loop-n.invariant c.requires.0 c.loop-n-test.false
