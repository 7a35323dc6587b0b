-- A value a turn: it is written behind those kept, and stays where it passes the test.
use Rattle.ranks.specs.inside.Narrow.{within}
use Rattle.ranks.proofs.Moved.{Moved}
use Rattle.ranks.proofs.narrowing.keep_within.Given as goal

abbrev pub invariant-loop-i : goal.invariant-loop-i
invariant-loop-i l = Moved (within l.pivots.low l.pivots.high) l.initial.values l.values l.i l.kept
