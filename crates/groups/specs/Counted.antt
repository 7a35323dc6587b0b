-- Each group rests on its own estimates, so the segments before shortening rest on all of them together. The statement.
use Rattle.std.specs.Prelude.{◌≡◌, List, length, Float}
use Rattle.keys.specs.declared.Key.{Key}
use Rattle.timeline.specs.Counts.{total_windows}
use Rattle.timeline.specs.declared.estimate.Estimate.{Estimate}
use Rattle.groups.specs.Groups.{first_segments}

-- of any estimates, and of none
abbrev pub GroupsCount : Type 0
GroupsCount = (threshold duration : Float) (key : Key) (confidence : Float) (found : List Estimate) → total_windows (first_segments threshold duration key confidence found) ≡ length found
