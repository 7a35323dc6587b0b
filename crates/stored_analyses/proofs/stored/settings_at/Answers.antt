-- The callees' definitions, put together.
use Rattle.stored_analyses.specs.Stored.{settings_at}
use Rattle.stored_analyses.proofs.stored.settings_at.Goals as goal

pub returns : goal.returns
unfolding settings_at
returns c = cc
