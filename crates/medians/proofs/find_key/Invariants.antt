-- Each turn leaves the key at the rank as it was; among those left it is found by halves.
use lib.ListN.{length}
use Rattle.ranks.specs.inside.Search.{SoughtIn}
use Rattle.ranks.specs.inside.Narrow.{Narrowed}
use Rattle.medians.proofs.find_key.Given as goal

abbrev pub invariant-loop-turn : goal.invariant-loop-turn
invariant-loop-turn l = SoughtIn l.work l.sought.left l.sought.rank l.sought.low l.sought.width × Narrowed l.initial.work (length l.initial.work) l.rank l.work l.sought.left l.sought.rank
