-- The loop's invariant: what was counted and noted after so many numbers.
use Rattle.majorities.proofs.Counting.{Counted}
use Rattle.majorities.proofs.majority.count_votes.Given as goal

abbrev pub invariant-loop-key : goal.invariant-loop-key
invariant-loop-key l = Counted l.numbers l.votes l.order l.known l.met l.key-index
