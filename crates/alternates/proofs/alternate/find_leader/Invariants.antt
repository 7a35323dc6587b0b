-- The keys that are left lead from who leads so far to the last of the largest.
use mathlib.Core.Path.{◌≡◌}
use Prim.Native.Nat.{ℕ}
use lib.ListN.{get_or}
use lib.Seq.{slice}
use lib.Ieee.{Float, nan}
use Rattle.laws.specs.Lists.{fold}
use Rattle.laws.specs.Order.{total_order}
use Rattle.laws.specs.Leader.{Standing, outdone}
use Rattle.alternates.specs.inside.Noted.{standing_of, leader_in}
use Rattle.alternates.specs.declared.alternate.Noted.{Noted}
use Rattle.alternates.proofs.alternate.find_leader.Given as goal

-- one key's turn
abbrev pub step : Noted → Standing Float → ℕ → Standing Float
step n = outdone total_order (λ (k : ℕ). get_or n.sums k nan)

abbrev pub invariant-loop-j : goal.invariant-loop-j
invariant-loop-j l = fold (step l.noted) (standing_of l.leader) (slice l.j l.noted.met l.noted.order) ≡ leader_in l.noted
