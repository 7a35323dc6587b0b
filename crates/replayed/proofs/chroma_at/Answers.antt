-- The closure reads a value, and stays as it is.
use Rattle.std.proofs.Common.{rules}
use Rattle.laws.proofs.FromFn.{list-from_fn}
use Rattle.replayed.specs.Records.{chroma_at}
use Rattle.replayed.proofs.chroma_at.Goals as goal

pub returns : goal.returns
unfolding chroma_at
returns c = list-from_fn _ _ _ _ 12 (λ j y q l k. search rules) c.from_fn.ensures.items
