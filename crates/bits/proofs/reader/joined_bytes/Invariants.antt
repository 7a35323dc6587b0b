-- A byte a turn: `seen` has the bits of those before.
use Rattle.std.proofs.Common.{◌*◌, take}
use Rattle.bits.specs.Bits.{bits_of_bytes, HasBits}
use Rattle.bits.proofs.reader.joined_bytes.Given as goal

abbrev pub invariant-loop-byte : goal.invariant-loop-byte
invariant-loop-byte l = HasBits (l.byte-index * 8) l.seen (bits_of_bytes (take l.byte-index l.bytes))
