-- The sum so far, or 2^32 where it has come to that.
use mathlib.Core.Path.{◌≡◌}
use Prim.Native.Nat.{min}
use Rattle.probe_segments.specs.Segments.{counts_upto}
use Rattle.probe_segments.proofs.segments_of_rows.few_windows.Given as goal

abbrev pub invariant-loop-windows : goal.invariant-loop-windows
invariant-loop-windows l = l.total ≡ min (counts_upto l.counts l.windows-index) 4_294_967_296
