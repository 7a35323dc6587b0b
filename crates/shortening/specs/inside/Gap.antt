-- Rows with a gap: the first `done` hold the segments looked at, and those from `next` up to the count are unread. No promise names it. Definitions only.
use Rattle.std.specs.Prelude.{ℕ, ◌+◌, ◌-◌, cond, List, ◌++◌, take, drop, replicate, Float}
use Rattle.keys.specs.Numbers.{key_number}
use Rattle.timeline.specs.Segments.{emptied, short, joined, SegmentRows, segment_in}
use Rattle.timeline.specs.inside.Segments.{Joinable, segment_rows, put_segment, FilledRows, filled_rows}

-- the segments in two rows can join
abbrev pub JoinableRows : ℕ → ℕ → SegmentRows → Type 0
JoinableRows i j r = Joinable (segment_in r i) (segment_in r j)

-- the segments in the rows p and p + 1 as one, in row p
abbrev pub joined_rows : ℕ → SegmentRows → SegmentRows
joined_rows p r = put_segment (joined (segment_in r p) (segment_in r (p + 1))) p r

-- the next one is read: it joins the last where that is short, and else stands behind it
unfoldable pub taken_in : Float → ℕ → ℕ → SegmentRows → FilledRows
taken_in least done next r =
    cond (short least (segment_in r (done - 1)))
    (filled_rows done (put_segment (joined (segment_in r (done - 1)) (segment_in r next)) (done - 1) r))
    (filled_rows (done + 1) (put_segment (segment_in r next) done r))

-- a column of which the entries from `from` up to `count` are x
abbrev pub emptied_column : {A : Type 0} → ℕ → ℕ → A → List A → List A
emptied_column from count x xs = take from xs ++ (replicate (count - from) x ++ drop count xs)

-- rows of which those are emptied
abbrev pub emptied_rows : ℕ → ℕ → SegmentRows → SegmentRows
emptied_rows from count r =
    segment_rows
    (emptied_column from count emptied.start r.starts)
    (emptied_column from count emptied.end r.ends)
    (emptied_column from count (key_number emptied.key) r.keys)
    (emptied_column from count emptied.confidence r.confidences)
    (emptied_column from count emptied.windows r.counts)
