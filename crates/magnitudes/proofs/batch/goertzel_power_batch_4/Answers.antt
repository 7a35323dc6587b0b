-- The resonators run together, then the callee's definition four times.
use Rattle.std.proofs.Common.{rules}
use Rattle.magnitudes.specs.InFours.{batch_powers}
use Rattle.magnitudes.proofs.batch.goertzel_power_batch_4.Goals as goal

pub returns : goal.returns
unfolding batch_powers
returns c = rw (← c.run_batch-delays.ensures) (search rules)
