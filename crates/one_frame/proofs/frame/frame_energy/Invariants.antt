-- `frame_energy` meets its contract: a sample a turn, and -0 added for one that is not finite changes nothing.
use Rattle.std.proofs.Common.{◌≡◌, ◌-◌, T}
use Rattle.laws.specs.Turns.{turns}
use Rattle.one_frame.specs.Frame.{square_added}
use Rattle.laws.specs.Values.{minus_zero}
use lib.Ieee.{binary32, fits}
use Rattle.one_frame.proofs.frame.frame_energy.Given as goal

abbrev pub invariant-loop-i : goal.invariant-loop-i
invariant-loop-i l = (turns (square_added l.samples l.start) (l.size - l.i) l.i l.sum ≡ turns (square_added l.samples l.start) l.size 0 minus_zero) × T (fits binary32 l.sum)
