-- The callees' definitions, put together.
use Rattle.laws.specs.Every.{every}
use Rattle.stored_analyses.specs.Outcome.{same_answer}
use Rattle.stored_analyses.specs.Rows.{same_numbers, same_values}
use Rattle.stored_analyses.proofs.outcome.answer_agrees.Goals as goal

pub returns : goal.returns
unfolding same_answer same_numbers same_values every
returns c = cc
