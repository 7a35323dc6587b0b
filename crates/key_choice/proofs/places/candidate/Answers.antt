-- The number of the turn.
use Rattle.key_choice.specs.Places.{candidate_at}
use Rattle.key_choice.proofs.places.candidate.Goals as goal

pub returns : goal.returns
unfolding candidate_at
returns c = rw c.key_from_index.ensures
