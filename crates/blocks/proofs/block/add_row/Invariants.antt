-- A position a turn; one not reached yet still has its old sums.
use Prim.Native.Nat.{ℕ}
use mathlib.Core.List.{[]}
use lib.ListN.{get_or}
use lib.Ieee.{nan}
use Rattle.laws.proofs.Front.{Filled}
use Rattle.filters.specs.Classes.{class_added}
use Rattle.blocks.proofs.block.add_row.Given as goal

abbrev pub invariant-loop-j : goal.invariant-loop-j
invariant-loop-j l = Filled (λ (i : ℕ). class_added l.lowest l.k (get_or l.powers i nan) (get_or l.initial.block i [])) l.initial.block l.block l.j
