-- Each return is the magnitude by the sign.
use Rattle.laws.proofs.Signs.{magnitude-of-negative, magnitude-of-positive}
use Rattle.laws.proofs.Table.{told}
use Rattle.numbers.proofs.single.magnitude.Goals as goal

pub returns-then-is_negative : goal.returns-then-is_negative
returns-then-is_negative c = magnitude-of-negative c.args.x (told c.is_negative.ensures c.if-is_negative.true)

pub returns-else-is_negative : goal.returns-else-is_negative
returns-else-is_negative c = magnitude-of-positive c.args.x (told c.is_negative.ensures c.if-is_negative.false)
