-- The second letter tells a sharp tonic.
use mathlib.Core.Bool.{true, false}
use borrow.Author.Tests.{eq-eqb, ne_eqb}
use Rattle.key_names.proofs.Letters.{counted-by}
use Rattle.key_names.proofs.tonic_length.Goals as goal

pub returns-then-letters-eq35 : goal.returns-then-letters-eq35
returns-then-letters-eq35 c = counted-by c.args.tonic c.tonic_letters-letters.ensures true (eq-eqb _ _ c.if-letters-eq35.true)

pub returns-else-letters-eq35 : goal.returns-else-letters-eq35
returns-else-letters-eq35 c = counted-by c.args.tonic c.tonic_letters-letters.ensures false (ne_eqb _ _ c.if-letters-eq35.false)
