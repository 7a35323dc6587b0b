-- Each return is a row of the table, or the card written.
use Rattle.card_pen.proofs.Kept.{none-holds, can-measure, too_few, can_write, card-written}
use Rattle.card_form.specs.Rows.{lent_card_rows}
use Rattle.packed_cards.specs.Packed.{packed_layout}
use Rattle.packed_cards.proofs.Packed.{asked}
use Rattle.packed_call.specs.PackedCards.{header_from}
use Rattle.packed_call.proofs.write_packed_card.Goals as goal

pub card_size-requires : goal.card_size-requires
unfolding packed_layout
card_size-requires c = can-measure ((let a = c.args in asked (header_from a.key a.dsp a.alternate a.coverage a.confidence) (lent_card_rows a.starts.now a.ends.now a.keys.now a.confidences.now))) (c.args.bytes.now) c.layout_of-found.ensures c.in-Some.is

pub returns-then-bytes-card_size : goal.returns-then-bytes-card_size
unfolding packed_layout
returns-then-bytes-card_size c = too_few ((let a = c.args in asked (header_from a.key a.dsp a.alternate a.coverage a.confidence) (lent_card_rows a.starts.now a.ends.now a.keys.now a.confidences.now))) (c.args.bytes.now) c.layout_of-found.ensures c.in-Some.is c.card_size.ensures c.if-bytes-card_size.true c.refused-then-bytes-card_size.ensures

pub write_card-requires : goal.write_card-requires
unfolding packed_layout
write_card-requires c = can_write ((let a = c.args in asked (header_from a.key a.dsp a.alternate a.coverage a.confidence) (lent_card_rows a.starts.now a.ends.now a.keys.now a.confidences.now))) (c.args.bytes.now) c.layout_of-found.ensures c.in-Some.is c.card_size.ensures c.if-bytes-card_size.false

pub returns-in-None : goal.returns-in-None
unfolding packed_layout
returns-in-None c = none-holds ((let a = c.args in asked (header_from a.key a.dsp a.alternate a.coverage a.confidence) (lent_card_rows a.starts.now a.ends.now a.keys.now a.confidences.now))) (c.args.bytes.now) c.layout_of-found.ensures c.in-None.is c.refused.ensures

pub returns-else-bytes-card_size : goal.returns-else-bytes-card_size
unfolding packed_layout
returns-else-bytes-card_size c = card-written ((let a = c.args in asked (header_from a.key a.dsp a.alternate a.coverage a.confidence) (lent_card_rows a.starts.now a.ends.now a.keys.now a.confidences.now))) (c.args.bytes.now) c.layout_of-found.ensures c.in-Some.is c.card_size.ensures c.if-bytes-card_size.false c.write_card.ensures.0 c.write_card.ensures.1
