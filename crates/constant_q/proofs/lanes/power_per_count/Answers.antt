-- The callees' definitions, put together.
use Rattle.std.proofs.Common.{refl}
use lib.Ieee.{of_bits}
use Rattle.constant_q.specs.ConstantQ.{per_count}
use Rattle.constant_q.proofs.lanes.power_per_count.Goals as goal

pub returns : goal.returns
unfolding per_count of_bits
returns c = rw (c.larger.ensures, c.power.ensures, c.nearest_u32_to_f32-n.ensures) refl
