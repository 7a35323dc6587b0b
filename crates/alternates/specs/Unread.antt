-- The alternate key does not depend on the segments' confidences or windows. The statement.
use Rattle.std.specs.Prelude.{◌≡◌, ℕ, List, map, Float}
use Rattle.timeline.specs.inside.Segments.{as_stretch}
use Rattle.timeline.specs.declared.segment.Segment.{Segment}
use Rattle.alternates.specs.Alternate.{alternate_of}

-- of any segments, as they are and as far as starts, ends and keys tell them
abbrev pub AlternateUnread : Type 0
AlternateUnread = (reported : ℕ) (threshold : Float) (segments : List Segment) → alternate_of reported threshold (map as_stretch segments) ≡ alternate_of reported threshold segments
