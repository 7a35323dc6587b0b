-- Segments do not depend on whether the windows' chromas have a shape. The statement.
use Rattle.std.specs.Prelude.{◌≡◌, List, map, Float}
use Rattle.keys.specs.declared.Key.{Key}
use Rattle.timeline.specs.inside.Estimates.{as_read}
use Rattle.timeline.specs.declared.estimate.Estimate.{Estimate}
use Rattle.groups.specs.Groups.{first_segments}

-- of any estimates, as they are and as they would be were none without a shape
abbrev pub ShapeUnread : Type 0
ShapeUnread = (threshold duration : Float) (key : Key) (confidence : Float) (found : List Estimate) → first_segments threshold duration key confidence (map as_read found) ≡ first_segments threshold duration key confidence found
