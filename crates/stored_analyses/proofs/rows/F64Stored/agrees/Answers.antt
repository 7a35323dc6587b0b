-- The callees' definitions, put together.
use Rattle.stored_analyses.specs.Rows.{same_time}
use Rattle.stored_analyses.proofs.rows.F64Stored.agrees.Goals as goal

pub returns : goal.returns
unfolding same_time
returns c = cc
