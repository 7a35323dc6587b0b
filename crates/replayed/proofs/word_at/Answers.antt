-- The four bytes are the definition's.
use Rattle.replayed.specs.Records.{word_at}
use Rattle.replayed.proofs.word_at.Goals as goal

pub returns : goal.returns
unfolding word_at
returns c = c.from_le_bytes.ensures
