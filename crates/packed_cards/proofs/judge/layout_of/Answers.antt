-- Lists that belong together and leave no gap are judged with each layout.
use Rattle.laws.proofs.Table.{told}
use Rattle.card_form.proofs.Broken.{equal-lengths, by_lengths, by-gap, by_layout}
use Rattle.card_form.specs.Rows.{lent_card_rows}
use Rattle.packed_cards.specs.Packed.{packed_layout}
use Rattle.packed_cards.proofs.Packed.{asked}
use Rattle.packed_cards.proofs.judge.layout_of.Goals as goal

pub returns-then-unequal_lengths : goal.returns-then-unequal_lengths
unfolding packed_layout
returns-then-unequal_lengths c = by_lengths (let args = c.args in asked args.h (lent_card_rows args.starts.now args.ends.now args.keys.now args.confidences.now)) (told c.unequal_lengths.ensures c.if-unequal_lengths.true)

pub first_gap-requires : goal.first_gap-requires
first_gap-requires c = (equal-lengths (let args = c.args in asked args.h (lent_card_rows args.starts.now args.ends.now args.keys.now args.confidences.now)) (told c.unequal_lengths.ensures c.if-unequal_lengths.false)).0

pub returns-then-first_gap-count : goal.returns-then-first_gap-count
unfolding packed_layout
returns-then-first_gap-count c = by-gap (let args = c.args in asked args.h (lent_card_rows args.starts.now args.ends.now args.keys.now args.confidences.now)) (told c.unequal_lengths.ensures c.if-unequal_lengths.false) c.first_gap.ensures c.if-first_gap-count.true

pub layout_for-requires : goal.layout_for-requires
layout_for-requires c = let same = equal-lengths (let args = c.args in asked args.h (lent_card_rows args.starts.now args.ends.now args.keys.now args.confidences.now)) (told c.unequal_lengths.ensures c.if-unequal_lengths.false) in (same.1, same.2)

pub returns : goal.returns
unfolding packed_layout
returns c = by_layout (let args = c.args in asked args.h (lent_card_rows args.starts.now args.ends.now args.keys.now args.confidences.now)) (told c.unequal_lengths.ensures c.if-unequal_lengths.false) c.first_gap.ensures c.if-first_gap-count.false c.layout_for.ensures
