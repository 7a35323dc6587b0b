-- A value a turn, from -0.
use mathlib.Core.Path.{◌≡◌}
use Prim.Native.Nat.{ℕ, ◌-◌}
use lib.ListN.{get_or}
use lib.Ieee.{Float, nan, binary32, add}
use Rattle.laws.specs.Turns.{turns}
use Rattle.laws.specs.Values.{minus_zero}
use Rattle.numbers.proofs.twelve.sum_of_twelve.Given as goal

abbrev pub invariant-loop-value : goal.invariant-loop-value
invariant-loop-value l = turns (λ (j : ℕ) (s : Float). add binary32 s (get_or l.values j nan)) (12 - l.value-index) l.value-index l.sum ≡ turns (λ (j : ℕ) (s : Float). add binary32 s (get_or l.values j nan)) 12 0 minus_zero
