-- The callees' definitions, put together.
use Rattle.verdicts.specs.Verdict.{verdict_of}
use Rattle.verdicts.proofs.verdict.judge_medians.Goals as goal

pub returns : goal.returns
unfolding verdict_of
returns c = rw (c.key_confidence.ensures, c.classify_key-told.ensures, c.tune_medians-chroma.ensures)
