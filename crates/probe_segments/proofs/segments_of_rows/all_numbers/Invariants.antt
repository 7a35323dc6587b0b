-- A number a turn, joined to those before.
use mathlib.Core.Path.{◌≡◌}
use Rattle.laws.specs.Every.{every}
use Rattle.probe_segments.specs.Segments.{is_number}
use Rattle.probe_segments.proofs.segments_of_rows.all_numbers.Given as goal

abbrev pub invariant-loop-number : goal.invariant-loop-number
invariant-loop-number l = l.sofar ≡ every (is_number l.numbers) l.number-index
