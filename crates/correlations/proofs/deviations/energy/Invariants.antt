-- A square a turn.
use mathlib.Core.Path.{◌≡◌}
use Prim.Native.Nat.{◌-◌}
use Rattle.laws.specs.Turns.{turns}
use Rattle.correlations.specs.inside.Deviations.{deviation_energy_turn, deviation_energy}
use Rattle.correlations.proofs.deviations.energy.Given as goal

abbrev pub invariant-loop-deviation : goal.invariant-loop-deviation
invariant-loop-deviation l = turns (deviation_energy_turn l.away) (12 - l.deviation-index) l.deviation-index l.sum ≡ deviation_energy l.away
