-- A byte a turn: `seen` has the bits of those before.
use Rattle.std.proofs.Common.{◌*◌, arith, refl}
use lib.Dec.{lit<}
use Rattle.bits.specs.Bits.{bits_of, bits_of_bytes}
use Rattle.bits.proofs.Digits.{shift_fits}
use Rattle.bits.proofs.Fields.{byte_more, bytes_all}
use Rattle.bits.proofs.reader.joined_bytes.Goals as goal

pub loop-byte-init : goal.loop-byte-init
unfolding bits_of bits_of_bytes
loop-byte-init c = record { fits = lit< tt; same = refl }

pub joined-seen-requires : goal.joined-seen-requires
joined-seen-requires c = (lit< tt, shift_fits (c.loop-byte.byte-index * 8) 8 c.loop-byte.invariant.fits (omega arith), omega (arith, c.from.ensures, (c.type_inv.bytes c.loop-byte.byte-index).fits))

pub loop-byte-preserved : goal.loop-byte-preserved
loop-byte-preserved c =
    byte_more c.args.bytes.now c.loop-byte.byte-index c.loop-byte.seen c.joined-seen.result c.loop-byte-test.true c.loop-byte.invariant
    (c.type_inv.bytes c.loop-byte.byte-index).fits (omega (arith, c.joined-seen.ensures, c.from.ensures))

pub returns : goal.returns
returns c = bytes_all c.args.bytes.now c.loop-byte.byte-index c.loop-byte.seen (omega arith) c.loop-byte.invariant
