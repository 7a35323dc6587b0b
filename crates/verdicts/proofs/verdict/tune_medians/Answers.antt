-- The callees' definitions, put together.
use Rattle.chroma.proofs.Fronts.{tuning-front}
use Rattle.verdicts.specs.Verdict.{tuned_of}
use Rattle.verdicts.proofs.verdict.tune_medians.Goals as goal

pub returns : goal.returns
unfolding tuned_of
returns c = rw (c.normalize_chroma.ensures, c.retune_chroma-tuned.ensures, c.estimate_tuning-offset.ensures, tuning-front c.args.values.now c.args.count c.requires)
