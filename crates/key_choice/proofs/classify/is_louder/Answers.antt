-- The chroma is read at the two tonics' numbers.
use Rattle.key_choice.specs.Classify.{louder}
use Rattle.key_choice.proofs.classify.is_louder.Goals as goal

pub returns : goal.returns
unfolding louder
returns c = rw (c.from-2.ensures.number, c.from.ensures.number)
