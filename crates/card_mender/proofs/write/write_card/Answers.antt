-- A pen puts the header, the segments and the filler.
use Rattle.bits.specs.Bits.{bits_of_bytes}
use Rattle.card_form.specs.Form.{segment_on}
use Rattle.card_pen.proofs.Puts.{can-start, can-put, can-end, size-put, card-put}
use Rattle.card_mender.proofs.write.write_card.Goals as goal

pub start_card-headed-requires : goal.start_card-headed-requires
start_card-headed-requires c = can-start c.args.l c.args.h (segment_on c.args.from (bits_of_bytes c.args.bytes.now)) c.args.count c.requires.0

pub put_segments-last-requires : goal.put_segments-last-requires
put_segments-last-requires c = (can-put c.args.l c.args.h (segment_on c.args.from (bits_of_bytes c.args.bytes.now)) c.args.count c.requires.0 c.start_card-headed.ensures, c.requires.1, c.requires.2, c.requires.3)

pub end_card-filled-requires : goal.end_card-filled-requires
end_card-filled-requires c = can-end c.args.l c.args.h (segment_on c.args.from (bits_of_bytes c.args.bytes.now)) c.args.count c.requires.0 c.start_card-headed.ensures c.put_segments-last.ensures

pub returns : goal.returns
returns c = (
  size-put c.args.l c.args.h (segment_on c.args.from (bits_of_bytes c.args.bytes.now)) c.args.count c.requires.0 c.start_card-headed.ensures c.put_segments-last.ensures c.end_card-filled.ensures,
  card-put c.args.l c.args.h (segment_on c.args.from (bits_of_bytes c.args.bytes.now)) c.args.count c.requires.0 c.start_card-headed.ensures c.put_segments-last.ensures c.end_card-filled.ensures (λ i. (c.type_inv.room i).fits),
)
