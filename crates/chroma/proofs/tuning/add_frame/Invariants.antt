-- A bin a turn.
use Rattle.std.proofs.Common.{◌≡◌, ◌-◌}
use Rattle.laws.specs.Turns.{turns}
use Rattle.chroma.specs.Tuning.{bin_added, frame_added}
use Rattle.chroma.proofs.tuning.add_frame.Given as goal

abbrev pub invariant-loop-bin : goal.invariant-loop-bin
invariant-loop-bin l = turns (bin_added l.values) (12 - l.bin) l.bin l.sums ≡ frame_added l.values l.initial.sums
