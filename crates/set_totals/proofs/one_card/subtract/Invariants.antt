-- A number a turn, from the front.
use mathlib.Core.List.{List}
use Prim.Native.Nat.{ℕ, ◌-◌}
use lib.ListN.{get_or}
use Rattle.laws.proofs.Front.{Filled}
use Rattle.set_totals.proofs.one_card.subtract.Given as goal

-- what is left of number k
abbrev pub left : List ℕ → List ℕ → ℕ → ℕ
left others numbers k = get_or numbers k 0 - get_or others k 0

abbrev pub invariant-loop-k : goal.invariant-loop-k
invariant-loop-k l = Filled (left l.others l.initial.numbers) l.initial.numbers l.numbers l.k
