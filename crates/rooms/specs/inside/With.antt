-- What is lent, with a part of it changed. No promise names it. Definitions only.
use Rattle.std.specs.Prelude.{ℕ, replicate}
use Rattle.laws.specs.Front.{front}
use Rattle.laws.specs.Values.{plus_zero}
use Rattle.calls.specs.Rows.{Rows}
use Rattle.timeline.specs.Estimates.{EstimateRows}
use Rattle.timeline.specs.Segments.{SegmentRows}
use Rattle.rooms.specs.Lent.{Lent, lent}

-- with other frame rows
abbrev pub with_frames : Rows → Lent → Lent
with_frames frames l = lent frames l.work l.estimates l.segments

-- with the first work numbers zeroed
abbrev pub work_zeroed : ℕ → Lent → Lent
work_zeroed count l = lent l.frames (front (replicate count plus_zero) l.work) l.estimates l.segments

-- with other estimates and segments
abbrev pub with_segments : EstimateRows → SegmentRows → Lent → Lent
with_segments estimates segments l = lent l.frames l.work estimates segments
