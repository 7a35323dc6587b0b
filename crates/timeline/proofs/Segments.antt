-- Segments in lent rows: written from the front one by one, and read back as they were put there, or from some of their columns.
use mathlib.Core.Path.{◌≡◌, refl, sym, ◌∙◌}
use mathlib.Core.List.{List, [], ◌∷◌, ◌++◌, map}
use Prim.Native.Nat.{ℕ, ◌+◌, ◌<◌}
use native.Mathlib.Omega.{arith}
use lib.ListN.{length, length-map}
use lib.Ieee.{Float, nan}
use Rattle.laws.specs.Front.{front}
use Rattle.laws.proofs.Front.{list_same, list-own, map-list, get_or-list, front-front}
use Rattle.laws.proofs.Column.{Column, column-start, column-more, column-at}
use Rattle.keys.specs.Numbers.{key_number}
use Rattle.keys.proofs.Placed.{numbers-are-keys}
use Rattle.timeline.specs.inside.Estimates.{Numbered}
use Rattle.timeline.specs.Segments.{emptied, seconds, short, segment_at, SegmentRows, segment_in, segments_in, holding_segments}
use Rattle.timeline.specs.inside.Segments.{segment_rows, put_segment, Room, seconds_in, short_in, stretches_of, as_stretch, stretch_in, stretches_in, Stretched}
use Rattle.timeline.specs.declared.segment.Segment.{Segment}

pub segment-there : (rows : SegmentRows) (count i : ℕ) → i < count → segment_at (segments_in rows count) i ≡ segment_in rows i
segment-there rows count i h = get_or-list (segment_in rows) count i emptied h

pub same_rows : {a b : SegmentRows} → a.starts ≡ b.starts → a.ends ≡ b.ends → a.keys ≡ b.keys → a.confidences ≡ b.confidences → a.counts ≡ b.counts → a ≡ b
same_rows p q r s t = λ i. segment_rows (p i) (q i) (r i) (s i) (t i)

-- the rows hold these segments in front of what stood there
pub record Holds (segments : List Segment) (before now : SegmentRows) : Type 0 where
  pub starts : Column (λ (s : Segment). s.start) segments before.starts now.starts
  pub ends : Column (λ (s : Segment). s.end) segments before.ends now.ends
  pub keys : Column (λ (s : Segment). key_number s.key) segments before.keys now.keys
  pub confidences : Column (λ (s : Segment). s.confidence) segments before.confidences now.confidences
  pub counts : Column (λ (s : Segment). s.windows) segments before.counts now.counts

pub holds-start : (before : SegmentRows) → Holds [] before before
holds-start before = record { starts = column-start _ _; ends = column-start _ _; keys = column-start _ _; confidences = column-start _ _; counts = column-start _ _ }

pub holds_more : (segments : List Segment) (s : Segment) (before now : SegmentRows) (n : ℕ) → n ≡ length segments → Room before (n + 1) → Holds segments before now → Holds (segments ++ (s ∷ [])) before (put_segment s n now)
holds_more segments s before now n e room h =
    record {
      starts = column-more _ _ s n e (omega (arith, room.starts)) h.starts;
      ends = column-more _ _ s n e (omega (arith, room.ends)) h.ends;
      keys = column-more _ _ s n e (omega (arith, room.keys)) h.keys;
      confidences = column-more _ _ s n e (omega (arith, room.confidences)) h.confidences;
      counts = column-more _ _ s n e (omega (arith, room.counts)) h.counts;
    }

pub holds-all : (segments : List Segment) (before now : SegmentRows) → Holds segments before now → now ≡ holding_segments segments before
holds-all segments before now h = same_rows h.starts.here h.ends.here h.keys.here h.confidences.here h.counts.here

module _ (segments : List Segment) (before : SegmentRows) where
  pub segments-numbered : Numbered (holding_segments segments before).keys (length segments)
  segments-numbered i h =
      rw (column-at (λ (s : Segment). key_number s.key) segments before.keys i 0 emptied h) (numbers-are-keys.below (segment_at segments i).key)

  pub segments-read-back : segments_in (holding_segments segments before) (length segments) ≡ segments
  unfolding segment_in
  segments-read-back =
      list_same (segment_in (holding_segments segments before)) (λ (i : ℕ). segment_at segments i) (length segments) same ∙ list-own segments emptied
    where
      same : (i : ℕ) → i < length segments → segment_in (holding_segments segments before) i ≡ segment_at segments i
      same i h = rw (
        column-at (λ (s : Segment). s.start) segments before.starts i nan emptied h,
        column-at (λ (s : Segment). s.end) segments before.ends i nan emptied h,
        column-at (λ (s : Segment). key_number s.key) segments before.keys i 0 emptied h,
        column-at (λ (s : Segment). s.confidence) segments before.confidences i nan emptied h,
        column-at (λ (s : Segment). s.windows) segments before.counts i 0 emptied h,
        numbers-are-keys.key_back (segment_at segments i).key,
      )

  -- as many others take their places
  pub held-again : (others : List Segment) → length others ≡ length segments → holding_segments others (holding_segments segments before) ≡ holding_segments others before
  held-again others e = same_rows (again (λ (s : Segment). s.start) before.starts) (again (λ (s : Segment). s.end) before.ends) (again (λ (s : Segment). key_number s.key) before.keys) (again (λ (s : Segment). s.confidence) before.confidences) (again (λ (s : Segment). s.windows) before.counts)
    where
      again : {A : Type 0} (f : Segment → A) (m : List A) → front (map f others) (front (map f segments) m) ≡ front (map f others) m
      again f m = front-front (map f others) (map f segments) m (length-map others f ∙ e ∙ sym (length-map segments f))

-- ---- what columns tell is what whole rows tell
module _ (rows : SegmentRows) where
  pub seconds-there : (i : ℕ) → seconds_in rows.starts rows.ends i ≡ seconds (segment_in rows i)
  unfolding seconds_in seconds segment_in
  seconds-there i = refl

  pub short-there : (least : Float) (i : ℕ) → short_in least rows.starts rows.ends i ≡ short least (segment_in rows i)
  unfolding short_in short seconds_in seconds segment_in
  short-there least i = refl

  pub stretches-there : (count : ℕ) → stretches_in (stretches_of rows) count ≡ map as_stretch (segments_in rows count)
  unfolding stretch_in segment_in
  stretches-there count = sym (map-list as_stretch (segment_in rows) count)

  pub stretched-there : {count : ℕ} → Room rows count → Stretched (stretches_of rows) count
  stretched-there room = record { starts = room.starts; ends = room.ends; keys = room.keys }
