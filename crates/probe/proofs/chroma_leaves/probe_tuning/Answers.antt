-- The leaf where the frames are there.
use borrow.Author.Tests.{lt-ltb, le-ltb}
use mathlib.Core.Path.{refl, ◌∙◌}
use lib.Ieee.{of_bits}
use Rattle.chroma.proofs.Fronts.{tuning-front}
use Rattle.probe.proofs.chroma_leaves.probe_tuning.Goals as goal

pub returns-then-count-frames : goal.returns-then-count-frames
unfolding of_bits
returns-then-count-frames c = rw (lt-ltb _ _ c.if-count-frames.true) refl

pub returns-else-count-frames : goal.returns-else-count-frames
returns-else-count-frames c = rw (le-ltb _ _ c.if-count-frames.false) (c.estimate_tuning.ensures ∙ tuning-front c.args.frames.now c.args.count c.if-count-frames.false)
