-- A case of the definition for each branch.
use Rattle.std.proofs.Common.{sym}
use Rattle.windows.specs.Span.{windows_of}
use Rattle.windows.proofs.span.count_windows.Goals as goal

pub returns-then-is_brief : goal.returns-then-is_brief
unfolding windows_of
returns-then-is_brief c = simp (sym c.is_brief.ensures, c.if-is_brief.true)

pub returns-else-is_brief : goal.returns-else-is_brief
unfolding windows_of
returns-else-is_brief c = simp (sym c.is_brief.ensures, c.if-is_brief.false, c.passes.ensures)
