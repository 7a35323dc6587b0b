-- `is_brief` is its definition.
use Rattle.std.proofs.Common.{rules}
use lib.Ieee.{lt}
use Rattle.windows.specs.Span.{brief}
use Rattle.windows.proofs.span.is_brief.Goals as goal

pub returns : goal.returns
unfolding lt brief
returns c = search rules
