-- The callees' definitions, put together.
use Rattle.stored_analyses.specs.Outcome.{same_segments}
use Rattle.stored_analyses.specs.Rows.{same_times, same_numbers, same_values}
use Rattle.stored_analyses.proofs.outcome.segments_agree.Goals as goal

pub returns : goal.returns
unfolding same_segments same_times same_numbers same_values
returns c = cc
