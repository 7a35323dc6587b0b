-- The invariant: √n is below q + 1, and q fits. The measure is q.
use Prim.Native.Nat.{◌+◌, ◌*◌, ◌^◌, ◌≤◌, ◌<◌}
use Rattle.roots.proofs.whole_root.Given as goal

abbrev pub invariant-loop-q : goal.invariant-loop-q
invariant-loop-q l = (l.n < (l.q + 1) * (l.q + 1)) × (l.q ≤ 2 ^ 25)

abbrev pub decreases-loop-q : goal.decreases-loop-q
decreases-loop-q l = l.q
