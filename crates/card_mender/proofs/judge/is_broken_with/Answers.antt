-- The header is judged first, then the segments one after the other.
use Rattle.laws.proofs.Table.{told}
use Rattle.bits.specs.Bits.{bits_of_bytes}
use Rattle.card_form.specs.Form.{segment_on}
use Rattle.card_form.proofs.Broken.{by-header, by-segments}
use Rattle.card_mender.proofs.judge.is_broken_with.Goals as goal

pub returns-then-header_broken : goal.returns-then-header_broken
returns-then-header_broken c =
    by-header c.args.rules c.args.h (segment_on c.args.l (bits_of_bytes c.args.bytes.now)) c.args.count (told c.header_broken.ensures c.if-header_broken.true)

pub returns : goal.returns
returns c =
    by-segments c.args.rules c.args.h (segment_on c.args.l (bits_of_bytes c.args.bytes.now)) c.args.count (told c.header_broken.ensures c.if-header_broken.false) c.first_broken.ensures
