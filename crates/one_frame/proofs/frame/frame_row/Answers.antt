-- By its two callees.
use Rattle.std.proofs.Common.{refl}
use Rattle.one_frame.proofs.frame.frame_row.Goals as goal

pub returns : goal.returns
returns c = rw (c.frame_chroma-values.ensures, c.frame_centre-centre.ensures) refl
