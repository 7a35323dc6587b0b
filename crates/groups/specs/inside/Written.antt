-- Only for the code's own steps: no promise names it. A group's segment from the slices of all estimates.
use Rattle.std.specs.Prelude.{ℕ, List, length, Float}
use Rattle.keys.specs.Numbers.{key_at}
use Rattle.timeline.specs.Segments.{segment}
use Rattle.timeline.specs.declared.segment.Segment.{Segment}
use Rattle.majorities.specs.Majority.{majority_of}
use Rattle.groups.specs.Groups.{between, mean_confidence}
use Rattle.groups.specs.declared.cut.Group.{Group}

-- the segment of a group, from its key numbers and confidences
unfoldable pub grouped : Float → Float → List ℕ → List Float → Segment
grouped start end numbers confidences = segment start end (key_at (majority_of numbers)) (mean_confidence confidences) (length confidences)

-- a group, from its parts
abbrev pub group : ℕ → ℕ → Float → Float → Group
group from to start end = record { from = from; to = to; start = start; end = end }

-- the segment of a group, from the key numbers and confidences of all estimates
abbrev pub group_in : Group → List ℕ → List Float → Segment
group_in g numbers confidences = grouped g.start g.end (between numbers g.from g.to) (between confidences g.from g.to)
