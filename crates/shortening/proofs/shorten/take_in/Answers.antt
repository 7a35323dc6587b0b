-- Each answer is a law of `Shortens`.
use native.Mathlib.Omega.{arith}
use Rattle.shortening.proofs.Shortens.{in-room, joinable-is, takes-joined, takes-next}
use Rattle.shortening.proofs.shorten.take_in.Goals as goal

pub joined-requires : goal.joined-requires
joined-requires c = joinable-is _ _ _ c.at-current.ensures c.at-following.ensures c.requires.3

pub put-requires : goal.put-requires
put-requires c = in-room c.requires.2 (omega arith)

pub returns-then-is_short-clause-taken : goal.returns-then-is_short-clause-taken
returns-then-is_short-clause-taken c = takes-joined _ _ _ _ c.at-current.ensures c.at-following.ensures c.is_short.ensures c.if-is_short.true c.joined.ensures c.put.ensures.rows

pub put-requires-2 : goal.put-requires-2
put-requires-2 c = in-room c.requires.2 (omega arith)

pub overflow_add-result : goal.overflow_add-result
overflow_add-result c = omega (arith, c.requires, c.ranges)

pub returns-clause-taken : goal.returns-clause-taken
returns-clause-taken c = takes-next _ _ _ _ c.at-current.ensures c.at-following.ensures c.is_short.ensures c.if-is_short.false c.put-2.ensures.rows
