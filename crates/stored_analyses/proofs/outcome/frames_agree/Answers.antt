-- The callees' definitions, put together.
use Rattle.stored_analyses.specs.Outcome.{same_frames}
use Rattle.stored_analyses.specs.Rows.{same_times, same_chromas, same_values}
use Rattle.stored_analyses.proofs.outcome.frames_agree.Goals as goal

pub returns : goal.returns
unfolding same_frames same_times same_chromas same_values
returns c = cc
