-- The callees' definitions, put together.
use Rattle.std.proofs.Common.{refl}
use Rattle.one_frame.proofs.frame.frame_chroma.Goals as goal

pub returns : goal.returns
returns c = rw (c.blend.ensures, c.goertzel_chroma-first.ensures) refl
