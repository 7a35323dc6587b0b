-- The only refusal, or the callees' definitions, put together.
use Rattle.chroma_calls.proofs.Outcomes.{unfit, twelve}
use Rattle.chroma_calls.proofs.scores_of_chroma.Goals as goal

pub returns-then-chroma-out : goal.returns-then-chroma-out
returns-then-chroma-out c = unfit c.args.chroma.now _ c.if-chroma-out.true

pub twelve_values-values-requires : goal.twelve_values-values-requires
twelve_values-values-requires c = twelve c.args.chroma.now c.args.out.now c.if-chroma-out.false
