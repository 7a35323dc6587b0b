-- The rows are filled, segment by segment.
use Rattle.bits.specs.Bits.{bits_of_bytes}
use Rattle.card_form.specs.Form.{segment_on}
use Rattle.read_call.specs.inside.Readable.{card_rows, SameSlices}
use Rattle.read_call.proofs.Rows.{Filling}
use Rattle.read_call.proofs.LentRows.read_segments.Given as goal

abbrev pub invariant-loop-i : goal.invariant-loop-i
invariant-loop-i l = record {
  same : SameSlices l.initial.self l.self;
  filling : Filling (segment_on l.l (bits_of_bytes l.bytes)) l.count (card_rows l.initial.self) (card_rows l.self) l.previous l.i;
}
