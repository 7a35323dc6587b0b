-- The callees' definitions, put together.
use Rattle.stored_analyses.specs.Outcome.{same_outcome}
use Rattle.stored_analyses.proofs.outcome.outcome_agrees.Goals as goal

pub returns : goal.returns
unfolding same_outcome
returns c = rw (c.segments_agree.ensures, c.estimates_agree.ensures, c.frames_agree.ensures, c.answer_agrees.ensures)
