-- The rows are filled, segment by segment.
use Rattle.std.proofs.Common.{rules, ◌+◌, ◌≤◌, arith, sym, subst, lt_of_lt_of_le}
use lib.Pow.{pow_mono}
use Rattle.bits.specs.Bits.{bits_of_bytes}
use Rattle.card.specs.Layout.{SegmentFits}
use Rattle.card.specs.declared.layout.Layout.{Layout}
use Rattle.card.specs.declared.layout.Segment.{Segment}
use Rattle.card_form.specs.Form.{segment_width, segment_on}
use Rattle.card_form.specs.Rows.{CardRows}
use Rattle.card_form.proofs.Lengths.{one-more-fits}
use Rattle.read_call.specs.inside.Readable.{card_rows, RowFits}
use Rattle.read_call.proofs.Rows.{Filling, filling-start, filling-more, filling-end}
use Rattle.read_call.proofs.LentRows.read_segments.Goals as goal

-- a segment of the card fits the rows
row-fits : (l : Layout) (s : Segment) → l.end ≤ 32 → SegmentFits l s → RowFits s
row-fits l s narrow fits = (lt_of_lt_of_le fits.end (pow_mono {j = 32} narrow), omega (arith, fits.key), omega (arith, fits.confidence))

pub loop-i-init : goal.loop-i-init
loop-i-init c = record {
  same = search rules;
  filling = filling-start c.args.l (segment_on c.args.l (bits_of_bytes c.args.bytes.now)) c.args.count (card_rows c.args.self.now);
}

pub segment_on-s-requires : goal.segment_on-s-requires
segment_on-s-requires c =
    (c.requires.layout, omega (arith, c.requires.few, c.loop-i-test.true), omega (arith, c.requires.there, one-more-fits c.loop-i.i c.args.count (segment_width c.args.l) c.loop-i-test.true))

pub put-requires : goal.put-requires
put-requires c =
    let f = c.loop-i.invariant.filling in
    let room = c.requires.room in (
      (omega (arith, f.starts.long, room), omega (arith, f.ends.long, room), omega (arith, f.keys.long, room), omega (arith, f.confidences.long, room)),
      row-fits c.args.l c.segment_on-s.result c.requires.narrow (subst (SegmentFits c.args.l) (sym c.segment_on-s.ensures) (c.requires.fits c.loop-i.i c.loop-i-test.true)),
    )

pub overflow_cast-previous : goal.overflow_cast-previous
overflow_cast-previous c =
    record { fits = (row-fits c.args.l c.segment_on-s.result c.requires.narrow (subst (SegmentFits c.args.l) (sym c.segment_on-s.ensures) (c.requires.fits c.loop-i.i c.loop-i-test.true))).0 }

pub loop-i-preserved : goal.loop-i-preserved
loop-i-preserved c =
    let args = c.args in
    let at = segment_on args.l (bits_of_bytes args.bytes.now) in
    let before = card_rows args.self.now in
    record {
      same = search rules;
      filling =
          subst (λ (rows : CardRows). Filling at args.count before rows c.segment_on-s.result.end (c.loop-i.i + 1)) (sym c.put.ensures.row)
          (filling-more args.l at args.count before c.loop-i.i c.loop-i.invariant.filling c.loop-i-test.true c.segment_on-s.ensures c.requires.room);
    }

pub returns : goal.returns
returns c =
    let args = c.args in
    record {
      same = c.loop-i.invariant.same;
      rows = filling-end args.l (segment_on args.l (bits_of_bytes args.bytes.now)) args.count (card_rows args.self.now) c.loop-i.invariant.filling c.loop-i-test.false;
    }
