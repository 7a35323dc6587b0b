-- Lists that belong together and leave no gap are judged with each layout.
use Rattle.laws.proofs.Table.{told}
use Rattle.card_form.proofs.Broken.{equal-lengths, by_lengths, by-gap, by_layout}
use Rattle.card_judge.specs.Analysed.{analysis, layout_of}
use Rattle.card_judge.proofs.Analyses.{asked}
use Rattle.card_judge.proofs.analysed.layout_of.Goals as goal

pub returns-then-unequal_lengths : goal.returns-then-unequal_lengths
unfolding layout_of
returns-then-unequal_lengths c = by_lengths (let args = c.args in asked (analysis args.o args.starts.now args.ends.now args.keys.now args.confidences.now)) (told c.unequal_lengths.ensures c.if-unequal_lengths.true)

pub first_gap-requires : goal.first_gap-requires
first_gap-requires c = (equal-lengths (let args = c.args in asked (analysis args.o args.starts.now args.ends.now args.keys.now args.confidences.now)) (told c.unequal_lengths.ensures c.if-unequal_lengths.false)).0

pub returns-then-first_gap-count : goal.returns-then-first_gap-count
unfolding layout_of
returns-then-first_gap-count c = by-gap (let args = c.args in asked (analysis args.o args.starts.now args.ends.now args.keys.now args.confidences.now)) (told c.unequal_lengths.ensures c.if-unequal_lengths.false) c.first_gap.ensures c.if-first_gap-count.true

pub layout_for-requires : goal.layout_for-requires
layout_for-requires c = let same = equal-lengths (let args = c.args in asked (analysis args.o args.starts.now args.ends.now args.keys.now args.confidences.now)) (told c.unequal_lengths.ensures c.if-unequal_lengths.false) in (same.1, same.2)

pub returns : goal.returns
unfolding layout_of
returns c = by_layout (let args = c.args in asked (analysis args.o args.starts.now args.ends.now args.keys.now args.confidences.now)) (told c.unequal_lengths.ensures c.if-unequal_lengths.false) c.first_gap.ensures c.if-first_gap-count.false c.layout_for.ensures
