-- By whether there is a key.
use mathlib.Core.Path.{sym, ap}
use mathlib.Core.Bool.{Bool, cond}
use Prim.Native.Nat.{ℕ}
use borrow.Author.Tests.{eq-eqb, ne_eqb}
use Rattle.card_mender.proofs.header.fewest.Goals as goal

abbrev counted : Bool → ℕ
counted silent = cond silent 0 1

pub returns-then-h-eq24 : goal.returns-then-h-eq24
returns-then-h-eq24 c = ap counted (sym (eq-eqb _ _ c.if-h-eq24.true))

pub returns-else-h-eq24 : goal.returns-else-h-eq24
returns-else-h-eq24 c = ap counted (sym (ne_eqb _ _ c.if-h-eq24.false))
