-- A bin a turn; the work numbers end zeroed each time.
use Prim.Native.Nat.{ℕ}
use Rattle.laws.specs.Front.{list}
use Rattle.laws.proofs.Front.{Filled}
use Rattle.medians.specs.Median.{median_of}
use Rattle.onsets.specs.Weighted.{weighted_at}
use Rattle.onsets.proofs.Emptied.{Emptied}
use Rattle.onsets.proofs.weighted.medians_by_weights.Given as goal

abbrev pub invariant-loop-bin : goal.invariant-loop-bin
invariant-loop-bin l = Emptied l.count l.initial.work l.work l.bin × Filled (λ (k : ℕ). median_of (list (weighted_at l.frames l.energies k) l.count)) l.initial.chroma l.chroma l.bin
