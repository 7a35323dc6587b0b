-- The callees' definitions, put together.
use Rattle.stored_analyses.specs.Stored.{head_at}
use Rattle.stored_analyses.proofs.stored.head_at.Goals as goal

pub returns : goal.returns
unfolding head_at
returns c = cc
