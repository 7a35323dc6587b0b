-- Each branch is the definition's.
use lib.Ieee.{of_bits}
use Rattle.filters.specs.Classes.{divided_value}
use Rattle.filters.proofs.classes.divide_value.Goals as goal

pub returns-then-weight : goal.returns-then-weight
unfolding divided_value of_bits
returns-then-weight c = rw c.if-weight.true

pub returns-else-weight : goal.returns-else-weight
unfolding divided_value of_bits
returns-else-weight c = rw c.if-weight.false
