-- The loop's invariant: the keys that are left lead from who leads so far to the last of the largest.
use mathlib.Core.Path.{◌≡◌}
use Prim.Native.Nat.{ℕ}
use lib.Dec.{leb}
use lib.ListN.{get_or, length}
use lib.Seq.{slice}
use Rattle.laws.specs.Lists.{fold}
use Rattle.laws.specs.Leader.{Standing, leads, outdone}
use Rattle.majorities.specs.declared.majority.Tally.{Tally}
use Rattle.majorities.proofs.majority.most_voted.Given as goal

-- one key's turn
abbrev pub step : Tally → Standing ℕ → ℕ → Standing ℕ
step t = outdone leb (λ (k : ℕ). get_or t.votes k 0)

abbrev pub invariant-loop-key : goal.invariant-loop-key
invariant-loop-key l =
    let keys = l.key-items in
    fold (step l.fn.tally) (leads l.leading l.most) (slice l.key-index (length keys) keys) ≡ fold (step l.fn.tally) (leads 0 0) (slice 0 (length keys) keys)
