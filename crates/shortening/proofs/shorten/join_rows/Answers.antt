-- What the calls ensure, put together.
use mathlib.Core.Path.{◌∙◌}
use native.Mathlib.Omega.{arith}
use Rattle.shortening.proofs.Shortens.{in-room, joinable-is, joined_is}
use Rattle.shortening.proofs.shorten.join_rows.Goals as goal

pub joined-requires : goal.joined-requires
joined-requires c = joinable-is _ _ _ c.at-earlier.ensures c.at-later.ensures c.requires.1

pub put-requires : goal.put-requires
put-requires c = in-room c.requires.0 (omega arith)

pub returns-clause-joined : goal.returns-clause-joined
returns-clause-joined c = c.put.ensures.rows ∙ joined_is _ _ c.at-earlier.ensures c.at-later.ensures c.joined.ensures
