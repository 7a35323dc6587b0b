-- The callees' definitions, put together.
use Rattle.replayed.specs.Records.{agrees}
use Rattle.replayed.proofs.record_agrees.Goals as goal

pub returns : goal.returns
unfolding agrees
returns c = rw (c.scores_agree.ensures, c.key_agrees.ensures, c.classify_key-found.ensures, c.chroma_at-chroma.ensures)
