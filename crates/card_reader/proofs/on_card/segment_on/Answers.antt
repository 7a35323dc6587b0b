-- The segment is read as one number, and that taken apart.
use Prim.Native.Nat.{◌+◌, ◌*◌, ◌^◌, ◌≤◌}
use native.Mathlib.Omega.{arith}
use Rattle.bits.specs.Bits.{bits_of_bytes}
use Rattle.bits.proofs.Binary.{binary-bytes}
use Rattle.bits.proofs.Digits.{length-bytes, few_bits}
use Rattle.card_reader.proofs.Apart.{segment-parts}
use Rattle.card_reader.proofs.on_card.segment_on.Goals as goal

pub overflow_mul-i : goal.overflow_mul-i
overflow_mul-i c =
    let few : c.args.i * (c.args.l.end + 5 + 10) ≤ 2 ^ 32 * 56 = few_bits c.args.i c.args.l.end c.requires.1 c.requires.0.end in
    omega (arith, few)

pub overflow_add-l-2 : goal.overflow_add-l-2
overflow_add-l-2 c =
    let few : c.args.i * (c.args.l.end + 5 + 10) ≤ 2 ^ 32 * 56 = few_bits c.args.i c.args.l.end c.requires.1 c.requires.0.end in
    omega (arith, few, c.requires.0.count)

pub returns : goal.returns
returns c =
    let bytes = c.args.bytes.now in
    let parts = segment-parts c.args.l (bits_of_bytes bytes) (binary-bytes bytes) _ c.args.i (rw (length-bytes bytes) c.requires.2) c.get_bits-number.ensures in
    rw (c.field.ensures, c.field-2.ensures, c.field-3.ensures) parts
