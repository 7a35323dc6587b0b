-- The loop's invariant: the search goes on from i, and `previous` is where segment i has to start.
use mathlib.Core.Path.{◌≡◌}
use Prim.Native.Nat.{ℕ, ◌-◌}
use lib.ListN.{get_or}
use Rattle.laws.specs.First.{first}
use Rattle.card.specs.Rules.{before}
use Rattle.packed_cards.specs.Packed.{packed_gap_at, first_packed_gap}
use Rattle.packed_cards.proofs.judge.first_gap.Given as goal

abbrev pub invariant-loop-i : goal.invariant-loop-i
invariant-loop-i l = (first (packed_gap_at l.starts l.ends) (l.count - l.i) l.i ≡ first_packed_gap l.starts l.ends) × (l.previous ≡ before 0 (λ (k : ℕ). get_or l.ends k 0) l.i)
