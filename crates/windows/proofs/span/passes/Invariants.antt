-- The start is window k's at every turn, so the loop's test is the definition's.
use Rattle.std.proofs.Common.{◌≡◌, ◌-◌}
use Rattle.laws.specs.First.{first}
use Rattle.windows.specs.Span.{start_of, ends_at, budget_for, windows_within}
use Rattle.calls.specs.Call.{longest_track}
use Rattle.windows.proofs.span.passes.Given as goal

abbrev pub invariant-loop-k : goal.invariant-loop-k
invariant-loop-k l = (l.start ≡ start_of l.span l.k) × (first (ends_at l.span) (budget_for longest_track - l.k) l.k ≡ windows_within (budget_for longest_track) l.span)
