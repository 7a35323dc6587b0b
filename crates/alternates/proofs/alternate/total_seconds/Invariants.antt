-- The sum so far is that of the first i segments.
use mathlib.Core.Path.{◌≡◌}
use Rattle.timeline.specs.inside.Segments.{stretches, stretches_in}
use Rattle.alternates.specs.Alternate.{total_of}
use Rattle.alternates.proofs.alternate.total_seconds.Given as goal

abbrev pub invariant-loop-i : goal.invariant-loop-i
invariant-loop-i l = l.sum ≡ total_of (stretches_in (stretches l.starts l.ends l.keys) l.i)
