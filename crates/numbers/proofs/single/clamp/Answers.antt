-- Each return is a branch of the definition.
use Rattle.laws.specs.Pick.{clamped_to}
use Rattle.numbers.proofs.single.clamp.Goals as goal

pub returns-then-x-low : goal.returns-then-x-low
unfolding clamped_to
returns-then-x-low c = rw c.if-x-low.true

pub returns-then-x-high : goal.returns-then-x-high
unfolding clamped_to
returns-then-x-high c = rw (c.if-x-low.false, c.if-x-high.true)

pub returns : goal.returns
unfolding clamped_to
returns c = rw (c.if-x-low.false, c.if-x-high.false)
