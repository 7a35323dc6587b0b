-- The search goes on from segment i.
use Rattle.card.proofs.Judged.{Judging}
use Rattle.card_form.proofs.said.first_broken.Given as goal

abbrev pub invariant-loop-i : goal.invariant-loop-i
invariant-loop-i g l = Judging l.l (g.S.SaysCard.segment_of l.said) l.count l.previous l.i
