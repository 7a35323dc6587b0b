-- The callees' definitions, put together.
use Rattle.std.proofs.Common.{refl}
use Rattle.one_frame.specs.Blend.{levelled}
use Rattle.one_frame.proofs.blend.level.Goals as goal

pub returns : goal.returns
unfolding levelled
returns c = rw (c.normalize_chroma.ensures, c.whiten_chroma-whitened.ensures) refl
