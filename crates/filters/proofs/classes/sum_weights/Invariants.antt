-- A row a turn.
use Prim.Native.Nat.{ℕ, ◌-◌}
use mathlib.Core.Path.{◌≡◌}
use lib.ListN.{length, get_or}
use lib.Ieee.{Float, nan}
use mathlib.Core.List.{List}
use Rattle.laws.specs.Turns.{turns}
use Rattle.filters.specs.Classes.{class_added, weights_by_class}
use Rattle.filters.proofs.classes.sum_weights.Given as goal

abbrev pub invariant-loop-k : goal.invariant-loop-k
invariant-loop-k l = turns (λ (j : ℕ) (s : List Float). class_added l.lowest j (get_or l.weights j nan) s) (length l.weights - l.k) l.k l.sums ≡ weights_by_class l.lowest l.weights
