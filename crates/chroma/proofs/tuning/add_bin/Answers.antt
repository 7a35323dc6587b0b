-- The tests joined are those of the definition.
use lib.Ieee.{of_bits}
use Rattle.chroma.specs.Tuning.{peak_added}
use Rattle.chroma.proofs.tuning.add_bin.Goals as goal

pub returns-then-height-before : goal.returns-then-height-before
unfolding peak_added of_bits
returns-then-height-before c = rw c.if-height-before.true

pub returns : goal.returns
unfolding peak_added of_bits
returns c = rw c.if-height-before.false
