-- The reported key does not depend on the segments' confidences or windows. The statement.
use Rattle.std.specs.Prelude.{◌≡◌, List, map}
use Rattle.keys.specs.declared.Key.{Key}
use Rattle.timeline.specs.inside.Segments.{as_stretch}
use Rattle.timeline.specs.declared.segment.Segment.{Segment}
use Rattle.longest.specs.Longest.{reported_of}

-- of any segments, as they are and as far as starts, ends and keys tell them
abbrev pub ReportedUnread : Type 0
ReportedUnread = (classified : Key) (segments : List Segment) → reported_of classified (map as_stretch segments) ≡ reported_of classified segments
