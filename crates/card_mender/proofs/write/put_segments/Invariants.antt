-- The loop's invariant: the first i segments have been put.
use Rattle.bits.specs.Bits.{bits_of_bytes}
use Rattle.card_form.specs.Form.{segment_on}
use Rattle.card_pen.proofs.Puts.{Putting}
use Rattle.card_mender.proofs.write.put_segments.Given as goal

abbrev pub invariant-loop-i : goal.invariant-loop-i
invariant-loop-i l = Putting l.l (segment_on l.from (bits_of_bytes l.bytes)) l.count l.initial.room l.room l.initial.pen l.pen l.i
