-- Three records, shortened. Definitions only.
use Rattle.std.specs.Prelude.{ℕ, min, [], ◌∷◌, Float}
use Rattle.timeline.specs.Segments.{segment_at}
use Rattle.timeline.specs.Counts.{total_windows}
use Rattle.timeline.specs.declared.segment.Segment.{Segment}
use Rattle.records.specs.Records.{Left, shortened_in}
use Rattle.joining.specs.declared.Three.{Three}

-- three records, of which so many hold segments
abbrev pub three : ℕ → Segment → Segment → Segment → Three
three count first second third = record { count = count; first = first; second = second; third = third }

-- how many windows three records rest on together
abbrev pub windows_of_three : Segment → Segment → Segment → ℕ
windows_of_three first second third = total_windows (first ∷ second ∷ third ∷ [])

-- a slice of three records by its parts
abbrev pub parts : Left → Three
parts l = three l.count (segment_at l.records 0) (segment_at l.records 1) (segment_at l.records 2)

-- what shortening leaves of the first ones of three records
abbrev pub shortened_three : Float → Three → Three
shortened_three least t = parts (shortened_in least (min t.count 3) (t.first ∷ t.second ∷ t.third ∷ []))
