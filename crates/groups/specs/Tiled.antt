-- The groups' segments tile the track. The statement.
use Rattle.std.specs.Float.{binary64}
use Rattle.std.specs.Prelude.{List, Float}
use Rattle.laws.specs.Values.{Modest}
use Rattle.keys.specs.declared.Key.{Key}
use Rattle.timeline.specs.Estimates.{Rising}
use Rattle.timeline.specs.Tiling.{Tiles}
use Rattle.timeline.specs.declared.estimate.Estimate.{Estimate}
use Rattle.groups.specs.Groups.{first_segments}

-- of estimates whose centres rise up to the duration, whatever they tell
abbrev pub GroupsTile : Type 0
GroupsTile = (threshold duration : Float) (key : Key) (confidence : Float) (found : List Estimate) → Modest binary64 duration → Rising duration found → Tiles duration (first_segments threshold duration key confidence found)
