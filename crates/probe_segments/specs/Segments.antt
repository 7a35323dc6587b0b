-- What the probes of segments answer and leave, for rows of any length and any numbers in them. Definitions only.
use Rattle.std.specs.Prelude.{ℕ, zero, suc, ◌+◌, min, Bool, ◌&&◌, cond, List, [], ◌∷◌, eqb, ltb, leb, length, get_or, Float, Option}
use Rattle.std.specs.Float.Ieee.{lt}
use Rattle.laws.specs.Values.{plus_zero}
use Rattle.laws.specs.Every.{every}
use Rattle.laws.specs.Front.{shortest}
use Rattle.laws.specs.Table.{all_of}
use Rattle.keys.specs.Numbers.{key_number, key_at}
use Rattle.calls.specs.declared.Settings.{Settings}
use Rattle.timeline.specs.Estimates.{EstimateRows, estimate_room}
use Rattle.timeline.specs.inside.Estimates.{Columns, estimates_in}
use Rattle.timeline.specs.Segments.{SegmentRows, segments_in, segment_room}
use Rattle.timeline.specs.inside.Segments.{FilledRows, filled_rows, Stretches, stretches_in}
use Rattle.windows.specs.Span.{span_of, rows_asked}
use Rattle.gathering.specs.Gather.{Heard, heard}
use Rattle.majorities.specs.Majority.{majority_of}
use Rattle.shortening.specs.inside.Settled.{settled}
use Rattle.segments.specs.inside.Fill.{filled_of}
use Rattle.segments.specs.inside.Located.{located_of}
use Rattle.segments.specs.declared.fill.Track.{Track}
use Rattle.longest.specs.Longest.{reported_of}
use Rattle.alternates.specs.Alternate.{alternate_of, alternate_number, alternate_coverage}
use Rattle.alternates.specs.declared.alternate.Alternate.{Alternate}
use Rattle.probe_segments.specs.declared.segments_of_rows.ProbedAlternate.{ProbedAlternate}
use Rattle.probe_segments.specs.declared.segments_of_frames.ProbedSegments.{ProbedSegments}

-- number i is a key's
abbrev pub is_number : List ℕ → ℕ → Bool
is_number keys i = ltb (get_or keys i 0) 24

-- each of the first keys is a key's number
abbrev pub all_numbers : List ℕ → ℕ → Bool
all_numbers keys count = every (is_number keys) count

-- the majority, and 0 where a number is above 23
abbrev pub probed_majority : List ℕ → ℕ
probed_majority numbers = cond (all_numbers numbers (length numbers)) (majority_of numbers) 0

-- the first counts summed
unfoldable pub counts_upto : List ℕ → ℕ → ℕ
counts_upto counts zero = 0
counts_upto counts (suc k) = counts_upto counts k + get_or counts k 0

-- their sum is a count of 32 bits
abbrev pub few_windows : List ℕ → ℕ → Bool
few_windows counts count = ltb (counts_upto counts count) 4_294_967_296

-- the first rows can be shortened
abbrev pub can_shorten : List ℕ → List ℕ → ℕ → Bool
can_shorten keys counts count = all_numbers keys count && few_windows counts count

-- all rows shortened; nothing where a key is above 23 or the counts sum to more than 32 bits hold
abbrev pub probed_shorten : Float → SegmentRows → FilledRows
probed_shorten least rows = let count = segment_room rows in cond (can_shorten rows.keys rows.counts count) (settled least (segments_in rows count) rows) (filled_rows 0 rows)

-- how many rows three columns have
abbrev pub stretch_room : Stretches → ℕ
stretch_room c = shortest (length c.starts) (length c.ends ∷ length c.keys ∷ [])

-- the reported key of all rows
abbrev pub probed_reported : ℕ → Stretches → ℕ
probed_reported classified c = key_number (reported_of (key_at classified) (stretches_in c (stretch_room c)))

-- both parts of an alternate's answer
abbrev pub probed_answer : Option Alternate → ProbedAlternate
probed_answer a = record { key = alternate_number a; coverage = alternate_coverage a }

-- the alternate key of all rows
abbrev pub probed_alternate : ℕ → Float → Stretches → ProbedAlternate
probed_alternate reported threshold c = probed_answer (alternate_of (key_number (key_at reported)) threshold (stretches_in c (stretch_room c)))

-- a track, from its parts and its key's number
abbrev pub track_of : Float → Float → Float → ℕ → Float → Track
track_of threshold minimum duration key confidence = record { threshold = threshold; minimum = minimum; duration = duration; key = key_at key; confidence = confidence }

-- lists of estimates of these lengths are equally long, not endless, and there is room for their segments
abbrev pub cut_fits : ℕ → ℕ → ℕ → ℕ → Bool
cut_fits middles numbers certainties room = all_of (eqb middles numbers ∷ eqb certainties numbers ∷ leb numbers room ∷ leb 1 room ∷ ltb numbers 4_294_967_296 ∷ [])

-- the segments of all estimates; nothing where they do not fit or a key is above 23
abbrev pub probed_cut : Track → Columns → SegmentRows → FilledRows
probed_cut t e rows =
    let found = length e.keys in
    cond (cut_fits (length e.centres) found (length e.confidences) (segment_room rows)) (cond (all_numbers e.keys found) (filled_of t (estimates_in e found) rows) (filled_rows 0 rows)) (filled_rows 0 rows)

-- the frames that both lists have
abbrev pub heard_in : List Float → List (List Float) → Heard
heard_in centres values = heard (min (length centres) (length values)) centres values

-- the track that the settings tell of, with its own key
abbrev pub probed_track : Settings → ℕ → ℕ → Float → Track
probed_track s samples key confidence = track_of s.segment_confidence_threshold s.minimum_segment_seconds (span_of s samples).duration key confidence

-- the hop is above 0, and both kinds of rows have the room that the windows ask for
abbrev pub can_run : Float → ℕ → ℕ → ℕ → Bool
can_run hop asked estimates segments = all_of (lt plus_zero hop ∷ leb asked estimates ∷ leb asked segments ∷ leb 1 segments ∷ [])

-- the counts with an outcome: 0, or 8 where that does not hold
abbrev pub counted : ℕ → ℕ → ℕ → ProbedSegments
counted outcome estimates segments = record { outcome = outcome; estimates = estimates; segments = segments }

-- what is answered, and the rows that are left
pub record Probed : Type 0 where
  pub answer : ProbedSegments
  pub estimates : EstimateRows
  pub segments : SegmentRows

-- the same, from its parts
abbrev pub probed : ProbedSegments → EstimateRows → SegmentRows → Probed
probed answer estimates segments = record { answer = answer; estimates = estimates; segments = segments }

-- the whole way from frames to segments, where the windows go on and there is room
abbrev pub probed_segments : Settings → ℕ → Track → Heard → EstimateRows → SegmentRows → Probed
probed_segments s samples t h e rows =
    let found = located_of (span_of s samples) t h e rows in
    cond (can_run s.local_hop_seconds (rows_asked (span_of s samples)) (estimate_room e) (segment_room rows))
    (probed (counted 0 found.answer.estimates found.answer.segments) found.estimates found.segments)
    (probed (counted 8 0 0) e rows)
