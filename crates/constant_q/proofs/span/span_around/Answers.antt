-- What is left of the window is counted from its start.
use Rattle.constant_q.proofs.Spans.{span-is}
use Rattle.constant_q.proofs.span.span_around.Goals as goal

pub returns : goal.returns
returns c = let a = c.args in span-is a.size a.centre a.samples c.requires c.saturating_sub-start.ensures c.min-count.ensures
