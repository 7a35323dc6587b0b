-- Each way out of a turn is a law of `Shortens`.
use Prim.Native.Nat.{◌+◌, ◌-◌}
use Rattle.timeline.specs.inside.Lent.{segments_lent, SameSegments}
use Rattle.shortening.proofs.Shortens.{Gap}
use Rattle.shortening.proofs.shorten.shorten_segments.Given as goal

abbrev pub invariant-loop-done : goal.invariant-loop-done
invariant-loop-done l =
    SameSegments l.initial.rows l.rows × Gap l.least l.count (segments_lent l.initial.rows) (segments_lent l.rows) l.done l.next

abbrev pub decreases-loop-done : goal.decreases-loop-done
decreases-loop-done l = l.count - l.next + (l.count - l.next) + l.done
