-- The number is the layout's own, or that of none in the list.
use Rattle.std.specs.Prelude.{Some}
use mathlib.Core.Path.{ap, ◌∙◌}
use borrow.Author.Tests.{eq-eqb, ne_eqb}
use Rattle.card.proofs.layout.layout_numbered.Goals as goal

pub returns-then-number-eq1 : goal.returns-then-number-eq1
returns-then-number-eq1 c = ap Some c.layout_1.ensures ∙ rw (eq-eqb _ _ c.if-number-eq1.true)

pub returns-then-number-eq2 : goal.returns-then-number-eq2
returns-then-number-eq2 c = ap Some c.layout_2.ensures ∙ rw (ne_eqb _ _ c.if-number-eq1.false, eq-eqb _ _ c.if-number-eq2.true)

pub returns : goal.returns
returns c = rw (ne_eqb _ _ c.if-number-eq1.false, ne_eqb _ _ c.if-number-eq2.false)
