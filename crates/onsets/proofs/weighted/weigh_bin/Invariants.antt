-- The work numbers are written from the front, a frame a turn.
use Rattle.laws.proofs.Front.{Filled}
use Rattle.onsets.specs.Weighted.{weighted_at}
use Rattle.onsets.proofs.weighted.weigh_bin.Given as goal

abbrev pub invariant-loop-j : goal.invariant-loop-j
invariant-loop-j l = Filled (weighted_at l.frames l.energies l.bin) l.initial.work l.work l.j
