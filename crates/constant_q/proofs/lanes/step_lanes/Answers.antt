-- The callees' definitions, put together.
use Rattle.std.proofs.Common.{refl}
use Rattle.constant_q.proofs.lanes.step_lanes.Goals as goal

pub returns : goal.returns
returns c = rw (c.step_four.ensures, c.four_coefficients.ensures, c.four_values-x.ensures) refl
