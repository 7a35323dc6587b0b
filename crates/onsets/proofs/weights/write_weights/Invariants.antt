-- A frame a turn, with the root of the energy before it at hand.
use mathlib.Core.Path.{◌≡◌}
use Prim.Native.Nat.{◌-◌, ◌<◌}
use lib.ListN.{get_or}
use lib.Ieee.{nan}
use Rattle.laws.proofs.Front.{Filled}
use Rattle.roots.specs.Root.{root_of}
use Rattle.onsets.specs.Onsets.{weight_at}
use Rattle.onsets.proofs.weights.write_weights.Given as goal

abbrev pub invariant-loop-j : goal.invariant-loop-j
invariant-loop-j l = Filled (weight_at l.energies) l.initial.weights l.weights l.j × (0 < l.j → l.low ≡ root_of (get_or l.energies (l.j - 1) nan))
