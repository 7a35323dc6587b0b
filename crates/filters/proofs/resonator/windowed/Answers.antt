-- Each branch is the definition's.
use lib.Ieee.{of_bits}
use Rattle.laws.proofs.Table.{told}
use Rattle.filters.specs.Resonator.{windowed_of}
use Rattle.filters.proofs.resonator.windowed.Goals as goal

pub returns-then-is_finite : goal.returns-then-is_finite
unfolding windowed_of
returns-then-is_finite c = rw (told c.is_finite.ensures c.if-is_finite.true)

pub returns-else-is_finite : goal.returns-else-is_finite
unfolding windowed_of of_bits
returns-else-is_finite c = rw (told c.is_finite.ensures c.if-is_finite.false)
