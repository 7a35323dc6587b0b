-- The header is read as one number, and that taken apart.
use Rattle.bits.specs.Bits.{bits_of_bytes}
use Rattle.bits.proofs.Binary.{binary-bytes}
use Rattle.bits.proofs.Digits.{length-bytes}
use Rattle.card_reader.proofs.Apart.{header-parts}
use Rattle.card_reader.proofs.on_card.header_on.Goals as goal

pub returns : goal.returns
returns c =
    let bytes = c.args.bytes.now in
    let parts = header-parts c.args.l (bits_of_bytes bytes) (binary-bytes bytes) _ (rw (length-bytes bytes) c.requires.1) c.get_bits-number.ensures in
    rw (c.field.ensures, c.field-2.ensures, c.field-3.ensures, c.field-4.ensures, c.field-5.ensures) parts
