-- The larger of 1 and the windows.
use Rattle.std.proofs.Common.{arith}
use Rattle.windows.specs.Span.{rows_asked}
use Rattle.windows.proofs.span.rows_asked.Goals as goal

pub returns : goal.returns
unfolding rows_asked
returns c = omega (arith, c.count_windows.ensures, c.max.ensures)
