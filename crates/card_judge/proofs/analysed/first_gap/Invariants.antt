-- The loop's invariant: the search goes on from i, and `previous` is where segment i has to start.
use mathlib.Core.Path.{◌≡◌}
use Prim.Native.Nat.{ℕ, ◌-◌}
use lib.ListN.{get_or}
use lib.Ieee.{nan}
use Rattle.laws.specs.First.{first}
use Rattle.laws.specs.Values.{plus_zero}
use Rattle.card.specs.Rules.{before}
use Rattle.card_judge.specs.Analysed.{gap_at, first_gap}
use Rattle.card_judge.proofs.analysed.first_gap.Given as goal

abbrev pub invariant-loop-i : goal.invariant-loop-i
invariant-loop-i l = (first (gap_at l.starts l.ends) (l.count - l.i) l.i ≡ first_gap l.starts l.ends) × (l.previous ≡ before plus_zero (λ (k : ℕ). get_or l.ends k nan) l.i)
