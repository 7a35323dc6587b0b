-- The sum, compared.
use lib.Ieee.{of_bits}
use Rattle.verdicts.specs.Verdict.{faint}
use Rattle.verdicts.proofs.verdict.is_faint.Goals as goal

pub returns : goal.returns
unfolding faint of_bits
returns c = rw c.sum_of_twelve.ensures
