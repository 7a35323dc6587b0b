-- Each return is a branch of the definition.
use lib.Ieee.{of_bits, neg}
use Rattle.chroma.specs.Tuning.{mean_offset}
use Rattle.chroma.proofs.tuning.mean_offset.Goals as goal

pub returns-then-peaks : goal.returns-then-peaks
unfolding mean_offset of_bits neg
returns-then-peaks c = rw c.if-peaks.true c.clamp.ensures

pub returns-else-peaks : goal.returns-else-peaks
unfolding mean_offset of_bits
returns-else-peaks c = rw c.if-peaks.false
