-- Each return is a branch of the definition.
use lib.Ieee.{of_bits}
use Rattle.alternates.specs.Alternate.{coverage_of, lacks}
use Rattle.alternates.proofs.alternate.judge.Goals as goal

pub returns-then-coverage-threshold : goal.returns-then-coverage-threshold
unfolding lacks coverage_of of_bits
returns-then-coverage-threshold c = rw (c.in_ok-rival.was, ← c.narrow-coverage.ensures, c.if-coverage-threshold.true)

pub returns-else-coverage-threshold : goal.returns-else-coverage-threshold
unfolding lacks coverage_of of_bits
returns-else-coverage-threshold c = rw (c.in_ok-rival.was, ← c.narrow-coverage.ensures, c.if-coverage-threshold.false)
