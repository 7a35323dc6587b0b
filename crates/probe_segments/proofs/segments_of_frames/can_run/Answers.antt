-- Its tests are the definition's.
use mathlib.Core.Path.{refl}
use lib.Ieee.{lt, of_bits}
use Rattle.probe_segments.proofs.segments_of_frames.can_run.Goals as goal

pub returns : goal.returns
unfolding lt of_bits
returns c = refl
