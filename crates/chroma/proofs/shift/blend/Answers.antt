-- The definition's operations.
use Rattle.std.proofs.Common.{refl}
use lib.Ieee.{of_bits}
use Rattle.chroma.specs.Shift.{blended}
use Rattle.chroma.proofs.shift.blend.Goals as goal

pub returns : goal.returns
unfolding blended of_bits
returns c = refl
