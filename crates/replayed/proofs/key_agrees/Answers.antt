-- The callees' definitions, put together.
use Rattle.numbers.proofs.FromBool.{from-bool}
use Rattle.replayed.specs.Records.{same_key}
use Rattle.replayed.proofs.key_agrees.Goals as goal

pub returns : goal.returns
unfolding same_key
returns c = rw (c.word_at-2.ensures, c.same_value-3.ensures, c.value_at-3.ensures, c.same_value-2.ensures, c.value_at-2.ensures, c.same_value.ensures, c.value_at.ensures, c.word_at.ensures, c.from-shapeless.ensures, from-bool c.args.found.shapeless, c.key_confidence-confidence.ensures, c.from-number.ensures)
