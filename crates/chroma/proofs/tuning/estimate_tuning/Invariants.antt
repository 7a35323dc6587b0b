-- A frame a turn.
use Rattle.std.proofs.Common.{◌≡◌, ◌-◌, length}
use Rattle.laws.specs.Turns.{turns}
use Rattle.chroma.specs.Tuning.{frames_added, no_peaks}
use Rattle.chroma.proofs.tuning.estimate_tuning.Given as goal

abbrev pub invariant-loop-values : goal.invariant-loop-values
invariant-loop-values l = turns (frames_added l.frames) (length l.frames - l.values-index) l.values-index l.peaks ≡ turns (frames_added l.frames) (length l.frames) 0 no_peaks
