-- The callees' definitions, put together.
use Rattle.numbers.proofs.FromBool.{from-bool}
use Rattle.chroma_calls.specs.FromChroma.{judged}
use Rattle.chroma_calls.proofs.judge.Goals as goal

pub returns : goal.returns
unfolding judged
returns c = rw (c.from-2.ensures, from-bool c.args.classified.shapeless, c.key_confidence.ensures, c.from.ensures)
