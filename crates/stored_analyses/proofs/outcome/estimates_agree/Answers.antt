-- The callees' definitions, put together.
use Rattle.stored_analyses.specs.Outcome.{same_estimates}
use Rattle.stored_analyses.specs.Rows.{same_times, same_numbers, same_values}
use Rattle.stored_analyses.proofs.outcome.estimates_agree.Goals as goal

pub returns : goal.returns
unfolding same_estimates same_times same_numbers same_values
returns c = cc
