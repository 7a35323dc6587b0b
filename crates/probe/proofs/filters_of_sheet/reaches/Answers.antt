-- By which end lies further.
use Rattle.probe.proofs.Fitting.{begins-behind, reaches-is}
use Rattle.probe.proofs.filters_of_sheet.reaches.Goals as goal

pub returns-then-samples-start : goal.returns-then-samples-start
returns-then-samples-start c = let a = c.args in begins-behind a.start a.size a.samples c.if-samples-start.true

pub returns : goal.returns
returns c = let a = c.args in reaches-is a.start a.size a.samples c.if-samples-start.false
