-- A pitch class a turn.
use mathlib.Core.Path.{◌≡◌}
use Prim.Native.Nat.{◌-◌}
use Rattle.laws.specs.Turns.{turns}
use Rattle.correlations.specs.inside.Lanes.{lanes_turn, lanes_of}
use Rattle.correlations.proofs.lanes.sum_lanes.Given as goal

abbrev pub invariant-loop-i : goal.invariant-loop-i
invariant-loop-i l = turns (lanes_turn l.away l.wheel l.root) (12 - l.i) l.i l.sums ≡ lanes_of l.away l.wheel l.root
