-- A line a turn, each behind those before it.
use Rattle.laws.specs.Front.{list}
use Rattle.bits.specs.Bits.{bits_of_bytes}
use Rattle.card_form.specs.Form.{segment_on}
use Rattle.listing.proofs.Segments.{Reached}
use Rattle.listing.proofs.cards.write_lines.Given as goal

abbrev pub invariant-loop-i : goal.invariant-loop-i
invariant-loop-i l = Reached (list (segment_on l.l (bits_of_bytes l.card)) l.count) l.initial.bytes l.bytes l.start l.at l.i
