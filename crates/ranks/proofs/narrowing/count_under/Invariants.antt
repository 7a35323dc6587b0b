-- The values before this one are counted.
use mathlib.Core.Path.{◌≡◌}
use Prim.Native.Nat.{◌≤◌}
use lib.ListN.{take}
use lib.Ieee.{Float, lt}
use Rattle.std.specs.Prelude.{count_by}
use Rattle.ranks.proofs.narrowing.count_under.Given as goal

abbrev pub invariant-loop-value : goal.invariant-loop-value
invariant-loop-value l = (l.counted ≤ l.value-index) × (l.counted ≡ count_by (λ (x : Float). lt x l.bound) (take l.value-index l.values))
