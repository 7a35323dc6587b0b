-- Shortening over records is shortening over rows, leaves no short segment among several, and keeps the tiling and the windows' number. Statements only.
use Rattle.std.specs.Prelude.{◌≡◌, ℕ, ◌≤◌, List, length, take, Float}
use Rattle.timeline.specs.Segments.{SegmentRows, segments_in, holding_segments}
use Rattle.timeline.specs.inside.Segments.{filled_rows}
use Rattle.timeline.specs.Tiling.{Tiles, NoneShort}
use Rattle.timeline.specs.Counts.{total_windows}
use Rattle.timeline.specs.declared.segment.Segment.{Segment}
use Rattle.shortening.specs.inside.Settled.{settled}
use Rattle.records.specs.Records.{Left, shortened_in}

-- the segments that are left
abbrev pub left_of : Left → List Segment
left_of l = take l.count l.records

-- where rows and records hold the same segments, shortening leaves as many, and the rows hold what the records hold
abbrev pub RecordsAreRows : Type 0
RecordsAreRows =
    (least : Float) (count : ℕ) (records : List Segment) (rows : SegmentRows) → count ≤ length records → segments_in rows count ≡ take count records
    → settled least (segments_in rows count) rows ≡ filled_rows (shortened_in least count records).count (holding_segments (take count (shortened_in least count records).records) rows)

-- none of several is short, whatever the minimum and the records
abbrev pub NoRecordShort : Type 0
NoRecordShort = (least : Float) (count : ℕ) (records : List Segment) → NoneShort least (left_of (shortened_in least count records))

-- records that tile still do
abbrev pub RecordsTile : Type 0
RecordsTile = (least duration : Float) (count : ℕ) (records : List Segment) → Tiles duration (take count records) → Tiles duration (left_of (shortened_in least count records))

-- the segments that are left rest on as many windows together as those before
abbrev pub RecordsCount : Type 0
RecordsCount = (least : Float) (count : ℕ) (records : List Segment) → total_windows (left_of (shortened_in least count records)) ≡ total_windows (take count records)
