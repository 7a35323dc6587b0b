-- The callees' definitions, put together.
use Rattle.windows.specs.Estimates.{estimate_of}
use Rattle.windows.proofs.estimate.estimate_of.Goals as goal

pub returns : goal.returns
unfolding estimate_of
returns c = rw (c.key_confidence.ensures, c.classify_key-told.ensures, c.normalize_chroma-normal.ensures)
