-- The next place where there is one.
use Rattle.std.proofs.Common.{arith}
use Rattle.records.proofs.Places.{after_next, after_last}
use Rattle.records.proofs.place_after.Goals as goal

pub returns-then-i-saturating_sub : goal.returns-then-i-saturating_sub
returns-then-i-saturating_sub c = after_next c.args.i c.args.count (omega (arith, c.saturating_sub.ensures, c.if-i-saturating_sub.true))

pub returns-else-i-saturating_sub : goal.returns-else-i-saturating_sub
returns-else-i-saturating_sub c = after_last c.args.i c.args.count (omega (arith, c.saturating_sub.ensures, c.if-i-saturating_sub.false))
