-- Rows 5 and 8 of the check table, as an analysis asks them. Definitions only.
use Rattle.std.specs.Prelude.{ℕ, Bool, List, [], ◌∷◌, ltb, length}
use Rattle.std.specs.Float.Ieee.{lt}
use Rattle.laws.specs.Values.{a_half}
use Rattle.calls.specs.Call.{positions_of}
use Rattle.calls.specs.Rows.{room_in}
use Rattle.calls.specs.declared.Settings.{Settings}
use Rattle.timeline.specs.Estimates.{estimate_room}
use Rattle.timeline.specs.Segments.{segment_room}
use Rattle.windows.specs.Span.{span_of, rows_asked}
use Rattle.rooms.specs.Lent.{Lent}

-- row 5: the local hop is below half a second
unfoldable pub hasty : Settings → Bool
hasty s = lt s.local_hop_seconds a_half

-- row 8's tests, with so many samples: frame rows or work numbers fewer than frame positions; estimates or segments fewer than W
abbrev pub too_small : Settings → ℕ → Lent → List Bool
too_small s count l =
    ltb (room_in l.frames) (positions_of s count)
    ∷ ltb (length l.work) (positions_of s count)
    ∷ ltb (estimate_room l.estimates) (rows_asked (span_of s count))
    ∷ ltb (segment_room l.segments) (rows_asked (span_of s count))
    ∷ []
