-- The loop's invariant: the first i segments have been put.
use native.Mathlib.Omega.{arith}
use Rattle.bits.specs.Bits.{bits_of_bytes}
use Rattle.card_form.specs.Form.{segment_width, segment_on}
use Rattle.card_form.proofs.Lengths.{one-more-fits}
use Rattle.card_pen.proofs.Puts.{putting-start, putting-room, putting-more, putting-end}
use Rattle.card_mender.proofs.write.put_segments.Goals as goal

pub loop-i-init : goal.loop-i-init
loop-i-init c = putting-start c.args.l (segment_on c.args.from (bits_of_bytes c.args.bytes.now)) c.args.count c.args.room.now c.args.first c.requires.0.ready

pub segment_on-s-requires : goal.segment_on-s-requires
segment_on-s-requires c = (c.requires.1, omega (arith, c.requires.2, c.loop-i-test.true), omega (arith, c.requires.3, one-more-fits c.loop-i.i c.args.count (segment_width c.args.from) c.loop-i-test.true))

pub put_segment-pen-requires : goal.put_segment-pen-requires
put_segment-pen-requires c = putting-room c.args.l (segment_on c.args.from (bits_of_bytes c.args.bytes.now)) c.args.count c.loop-i.i c.loop-i.invariant c.loop-i-test.true c.segment_on-s.ensures c.requires.0

pub loop-i-preserved : goal.loop-i-preserved
loop-i-preserved c = putting-more c.args.l (segment_on c.args.from (bits_of_bytes c.args.bytes.now)) c.args.count c.loop-i.i c.loop-i.invariant c.loop-i-test.true c.segment_on-s.ensures c.put_segment-pen.ensures

pub shape_of-room : goal.shape_of-room
shape_of-room c = c.loop-i.invariant.put.size

pub returns : goal.returns
returns c = putting-end c.args.l (segment_on c.args.from (bits_of_bytes c.args.bytes.now)) c.args.count c.loop-i.invariant c.loop-i-test.false
