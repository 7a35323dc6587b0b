-- The callees' definitions, put together.
use Rattle.key_choice.specs.Classify.{classified_of}
use Rattle.key_choice.proofs.classify.classify_key.Goals as goal

pub returns : goal.returns
unfolding classified_of
returns c = rw (c.choose_key.ensures, c.find_places-places.ensures, c.score_keys-scored.ensures)
