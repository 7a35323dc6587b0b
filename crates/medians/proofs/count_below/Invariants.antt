-- The values before this one are counted.
use mathlib.Core.Path.{◌≡◌}
use Prim.Native.Nat.{◌≤◌}
use lib.Dec.{ltb}
use lib.ListN.{take}
use lib.Ieee.{Float, binary32}
use Rattle.std.specs.Prelude.{count_by}
use Rattle.laws.specs.Order.{order_key}
use Rattle.medians.proofs.count_below.Given as goal

abbrev pub invariant-loop-value : goal.invariant-loop-value
invariant-loop-value l = (l.counted ≤ l.value-index) × (l.counted ≡ count_by (λ (x : Float). ltb (order_key binary32 x) l.bound) (take l.value-index l.values))
