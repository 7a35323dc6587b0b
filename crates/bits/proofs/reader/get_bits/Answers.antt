-- The bytes that hold the field are read as one number: eight of them, or no more than it needs.
use mathlib.Core.Path.{◌∙◌}
use Prim.Native.Nat.{◌+◌, ◌-◌, ◌*◌, ◌/◌, ◌%◌}
use native.Mathlib.Omega.{arith}
use Rattle.bits.proofs.Fields.{window-lent, window-field}
use Rattle.bits.proofs.reader.get_bits.Goals as goal

pub returns-then-wanted-gt0 : goal.returns-then-wanted-gt0
returns-then-wanted-gt0 c =
    let first = c.args.at / 8 in
    let has = window-lent c.args.bytes.now first 8 c.joined_bytes-eight.result (omega arith) c.joined_bytes-eight.ensures in
    c.low_bits.ensures
    ∙ window-field c.args.bytes.now first 8 c.joined_bytes-eight.result c.args.at c.args.width (64 - (c.args.at % 8 + c.args.width)) has (omega arith) (omega arith) (omega arith)

pub returns : goal.returns
returns c =
    let first = c.args.at / 8 in
    let count = (c.args.at % 8 + c.args.width + 7) / 8 in
    let has = window-lent c.args.bytes.now first count c.joined_bytes-seen.result (omega arith) c.joined_bytes-seen.ensures in
    c.low_bits-2.ensures
    ∙ window-field c.args.bytes.now first count c.joined_bytes-seen.result c.args.at c.args.width (count * 8 - (c.args.at % 8 + c.args.width)) has (omega arith) (omega arith) (omega arith)
