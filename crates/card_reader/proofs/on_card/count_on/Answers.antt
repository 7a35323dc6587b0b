-- The count is the last field of the header's number.
use mathlib.Core.Path.{◌∙◌}
use native.Mathlib.Omega.{arith}
use Rattle.bits.specs.Bits.{bits_of_bytes}
use Rattle.bits.proofs.Binary.{binary-bytes}
use Rattle.bits.proofs.Digits.{length-bytes}
use Rattle.card_reader.proofs.Apart.{count-part, part_small}
use Rattle.card_reader.proofs.on_card.count_on.Goals as goal

pub returns : goal.returns
returns c =
    let bytes = c.args.bytes.now in
    let number = c.get_bits-number.result in (
      c.field.ensures ∙ count-part c.args.l (bits_of_bytes bytes) (binary-bytes bytes) number (rw (length-bytes bytes) c.requires.1) c.get_bits-number.ensures,
      rw c.field.ensures (part_small number 0 {limit = 32} (omega (arith, c.requires.0.count))),
    )
