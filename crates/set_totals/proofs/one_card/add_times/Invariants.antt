-- A segment a turn, added to its key.
use Rattle.bits.specs.Bits.{bits_of_bytes}
use Rattle.card_form.specs.Form.{meaning_on}
use Rattle.set_totals.proofs.Adding.{Added}
use Rattle.set_totals.proofs.one_card.add_times.Given as goal

abbrev pub invariant-loop-i : goal.invariant-loop-i
invariant-loop-i l = Added (meaning_on l.l (bits_of_bytes l.card)) l.initial.numbers l.numbers l.previous l.i
