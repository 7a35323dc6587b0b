-- The run over the segments as they stand on the card.
use native.Mathlib.Omega.{arith}
use Rattle.bits.specs.Bits.{bits_of_bytes}
use Rattle.card.proofs.Judged.{judging-start, judging-more, judging-out, judging-end}
use Rattle.card_form.specs.Form.{segment_width, segment_on}
use Rattle.card_form.proofs.Lengths.{one-more-fits}
use Rattle.card_reader.proofs.judge.first_broken.Goals as goal

pub loop-i-init : goal.loop-i-init
loop-i-init c = let args = c.args in judging-start args.rules (segment_on args.l (bits_of_bytes args.bytes.now)) args.count

pub segment_on-s-requires : goal.segment_on-s-requires
segment_on-s-requires c =
    let i = c.loop-i.i in
    (c.requires.0, omega (arith, c.requires.1, c.loop-i-test.true), omega (arith, c.requires.2, one-more-fits i c.args.count (segment_width c.args.l) c.loop-i-test.true))

pub loop-i-preserved : goal.loop-i-preserved
loop-i-preserved c = judging-more c.args.rules ((segment_on c.args.l (bits_of_bytes c.args.bytes.now))) c.args.count c.loop-i.i c.loop-i.invariant c.loop-i-test.true c.segment_on-s.ensures c.segment_broken.ensures c.if-segment_broken.false

pub returns : goal.returns
returns c =
    let args = c.args in
    judging-end args.rules (segment_on args.l (bits_of_bytes args.bytes.now)) args.count c.loop-i.invariant c.loop-i-test.false

pub returns-then-segment_broken : goal.returns-then-segment_broken
returns-then-segment_broken c = judging-out c.args.rules ((segment_on c.args.l (bits_of_bytes c.args.bytes.now))) c.args.count c.loop-i.i c.loop-i.invariant c.loop-i-test.true c.segment_on-s.ensures c.segment_broken.ensures c.if-segment_broken.true
