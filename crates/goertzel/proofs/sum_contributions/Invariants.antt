-- A row a turn.
use Prim.Native.Nat.{ℕ, ◌-◌}
use mathlib.Core.Path.{◌≡◌}
use lib.ListN.{length, get_or}
use lib.Ieee.{Float, nan, binary32, mul}
use mathlib.Core.List.{List}
use Rattle.laws.specs.Turns.{turns}
use Rattle.filters.specs.Classes.{class_added}
use Rattle.goertzel.specs.Goertzel.{contribution_of, contributions_by_class}
use Rattle.goertzel.proofs.sum_contributions.Given as goal

abbrev pub invariant-loop-k : goal.invariant-loop-k
invariant-loop-k l = turns (λ (j : ℕ) (s : List Float). class_added l.lowest j (mul binary32 (contribution_of l.magnitudes l.lowest j) (get_or l.weights j nan)) s) (length l.magnitudes - l.k) l.k l.sums ≡ contributions_by_class l.lowest l.magnitudes l.weights
