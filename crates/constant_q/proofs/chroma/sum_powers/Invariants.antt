-- A row a turn, added or passed over.
use Rattle.std.proofs.Common.{◌≡◌, ◌-◌, length}
use Rattle.laws.specs.Turns.{turns}
use Rattle.constant_q.specs.inside.Powers.{listed_turn, powers_by_class}
use Rattle.constant_q.proofs.chroma.sum_powers.Given as goal

abbrev pub invariant-loop-k : goal.invariant-loop-k
invariant-loop-k l = turns (listed_turn l.lowest l.samples l.centre l.lengths l.powers) (length l.powers - l.k) l.k l.sums ≡ powers_by_class l.lowest l.samples l.centre l.lengths l.powers
