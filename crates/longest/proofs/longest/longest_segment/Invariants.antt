-- The turns that are left lead from the best so far to the longest.
use mathlib.Core.Path.{◌≡◌}
use Prim.Native.Nat.{◌-◌}
use Rattle.laws.specs.Turns.{turns}
use Rattle.timeline.specs.inside.Segments.{stretches, stretches_in}
use Rattle.longest.specs.Longest.{longest_turn, longest_of}
use Rattle.longest.proofs.longest.longest_segment.Given as goal

abbrev pub invariant-loop-i : goal.invariant-loop-i
invariant-loop-i l =
    let segments = stretches_in (stretches l.starts l.ends l.keys) l.count in
    turns (longest_turn segments) (l.count - l.i) l.i l.best ≡ longest_of segments
