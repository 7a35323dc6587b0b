-- The run over the segments as they stand on the card.
use Rattle.bits.specs.Bits.{bits_of_bytes}
use Rattle.card.proofs.Judged.{Judging}
use Rattle.card_form.specs.Form.{segment_on}
use Rattle.card_reader.proofs.judge.first_broken.Given as goal

abbrev pub invariant-loop-i : goal.invariant-loop-i
invariant-loop-i l = Judging l.rules (segment_on l.l (bits_of_bytes l.bytes)) l.count l.previous l.i
