-- Laws of the loop that shortens, which the proof of `shorten_segments` cites, a law for each way out of a turn. What is kept before the gap and what is
-- unread behind it become what all segments become; none kept is short but perhaps the last, so that is the first short one.
use mathlib.Core.Path.{◌≡◌, refl, sym, ap, subst, ◌∙◌}
use mathlib.Core.Logic.{◌⊎◌, inl, inr}
use mathlib.Core.Bool.{Bool, true, false, not, ◌&&◌, cond}
use mathlib.Core.List.{List, [], ◌∷◌, ◌++◌, append-nil}
use Prim.Native.Nat.{ℕ, suc, ◌+◌, ◌-◌, ◌^◌, ◌<◌, ◌≤◌}
use native.Mathlib.Nat.{eq-or-lt_of_le, add-zero}
use native.Mathlib.Omega.{arith}
use lib.Dec.{T, eqb}
use lib.ListN.{length, get_or, take, drop, replicate, length-append, length-drop, get_or-append}
use lib.Seq.{length-take-le, take-length, take-append-le, drop_at, drop-append-add, drop-cons, drop-drop, drop-length, append_snoc, get_or-take, get_or-drop, get_or-append-add}
use lib.Ieee.{Float, nan, le}
use borrow.Author.Tests.{eq-eqb, ne_eqb}
use Rattle.laws.specs.Front.{front}
use Rattle.laws.proofs.Cases.{by-test}
use Rattle.laws.proofs.First.{first-before}
use Rattle.laws.proofs.Front.{length-list, list_same, front-own}
use Rattle.keys.specs.Numbers.{key_number, key_at}
use Rattle.keys.proofs.Placed.{numbers-are-keys}
use Rattle.timeline.specs.inside.Estimates.{Numbered}
use Rattle.timeline.specs.Segments.{emptied, short, joined, segment, segment_at, SegmentRows, segment_in, segments_in, holding_segments}
use Rattle.timeline.specs.Counts.{total_windows}
use Rattle.timeline.specs.inside.Segments.{Joinable, put_segment, Room, FilledRows, filled_rows, seconds_in, short_in}
use Rattle.timeline.specs.declared.segment.Segment.{Segment}
use Rattle.timeline.proofs.Segments.{segment-there, same_rows, seconds-there, short-there}
use Rattle.timeline.proofs.Counts.{two-within}
use Rattle.shortening.specs.Shorten.{first_short, keeper, join_at, join_short, unsettled, shortened_of, left_in}
use Rattle.shortening.specs.inside.Settled.{settled}
use Rattle.shortening.specs.inside.Lengths.{prefers_back, joins_back}
use Rattle.shortening.specs.inside.Gap.{JoinableRows, joined_rows, taken_in, emptied_rows}
use Rattle.shortening.proofs.Settles.{first_short-within, first_short-at, to-join, few-settled, long-settled, none-to-join, shortened-join, stays}
use Rattle.shortening.proofs.Counts.{counts-stay}
use Rattle.shortening.proofs.Apart.{Apart, apart-own, apart-start, apart-put, apart-kept, apart-rest, apart-end}

both : (a b : Bool) → (a && b) ≡ true → (a ≡ true) × (b ≡ true)
both true b e = (refl, e)
both false true e = (e, refl)
both false false e = (e, e)

not-both : (a b : Bool) → (a && b) ≡ false → (a ≡ false) ⊎ ((a ≡ true) × (b ≡ false))
not-both false b e = inl refl
not-both true b e = inr (refl, e)

-- what a row's place asks
pub in-room : {rows : SegmentRows} {count i : ℕ} → Room rows count → i < count → (i < length rows.starts) × (i < length rows.ends) × (i < length rows.keys) × (i < length rows.confidences) × (i < length rows.counts)
in-room room h = omega (arith, room)

-- the segment of two rows, put into the first
pub joined_is : (p : ℕ) (rows : SegmentRows) {earlier later s : Segment} → earlier ≡ segment_in rows p → later ≡ segment_in rows (p + 1) → s ≡ joined earlier later → put_segment s p rows ≡ joined_rows p rows
joined_is p rows e l j = ap (λ (s : Segment). put_segment s p rows) (j ∙ (λ i. joined (e i) (l i)))

-- the windows of two rows' segments
pub joinable-is : (i j : ℕ) (rows : SegmentRows) {earlier later : Segment} → earlier ≡ segment_in rows i → later ≡ segment_in rows j → JoinableRows i j rows → Joinable earlier later
joinable-is i j rows e l h = rw (e, l) h

-- ---- whether the last one joins the one before it, one law to each answer
module _ (least : Float) (done next count : ℕ) (starts ends : List Float) {flag : Bool} (f : flag ≡ short_in least starts ends (done - 1)) where
  pub stays-long : not flag ≡ true → false ≡ joins_back least done next count starts ends
  unfolding joins_back
  stays-long t = rw (sym f) (go flag t (prefers_back done next count starts ends))
    where
      go : (b : Bool) → not b ≡ true → (c : Bool) → false ≡ (b && c)
      go true t c = absurd (subst T (sym t) tt)
      go false t c = refl

  is-short : not flag ≡ false → short_in least starts ends (done - 1) ≡ true
  is-short t = sym f ∙ go flag t
    where
      go : (b : Bool) → not b ≡ false → b ≡ true
      go true t = refl
      go false t = sym t

  pub stays-first : not flag ≡ false → done - 1 ≡ 0 → false ≡ joins_back least done next count starts ends
  unfolding joins_back prefers_back
  stays-first t first = rw (is-short t, eq-eqb (done - 1) 0 first)

  pub joins-last : not flag ≡ false → (done - 1 ≡ 0 → ⊥) → next ≡ count → true ≡ joins_back least done next count starts ends
  unfolding joins_back prefers_back
  joins-last t inner end = rw (is-short t, ne_eqb (done - 1) 0 inner, eq-eqb next count end)

  pub joins-longer : {a b : Float} → not flag ≡ false → (done - 1 ≡ 0 → ⊥) → (next ≡ count → ⊥) → a ≡ seconds_in starts ends (done - 1 - 1) → b ≡ seconds_in starts ends next → le b a ≡ joins_back least done next count starts ends
  unfolding joins_back prefers_back
  joins-longer t inner inside earlier later = rw (is-short t, ne_eqb (done - 1) 0 inner, ne_eqb next count inside, earlier, later)

-- ---- the next one is read, a law to each answer
module _ (least : Float) (done next : ℕ) (rows : SegmentRows) {current following : Segment} {flag : Bool} {after : SegmentRows} (e : current ≡ segment_in rows (done - 1)) (n : following ≡ segment_in rows next) (f : flag ≡ short least current) where
  pub takes-joined : {x : Segment} → flag ≡ true → x ≡ joined current following → after ≡ put_segment x (done - 1) rows → filled_rows done after ≡ taken_in least done next rows
  unfolding taken_in
  takes-joined t x put =
      let s : short least (segment_in rows (done - 1)) ≡ true = ap (short least) (sym e) ∙ sym f ∙ t in
      rw (s, put, x, e, n)

  pub takes-next : flag ≡ false → after ≡ put_segment following done rows → filled_rows (done + 1) after ≡ taken_in least done next rows
  unfolding taken_in
  takes-next t put =
      let s : short least (segment_in rows (done - 1)) ≡ false = ap (short least) (sym e) ∙ sym f ∙ t in
      rw (s, put, n)

-- one more at most
pub taken-few : (least : Float) (done next : ℕ) (rows : SegmentRows) {found : ℕ} {after : SegmentRows} → filled_rows found after ≡ taken_in least done next rows → found ≤ done + 1
unfolding taken_in
taken-few least done next rows e =
    let count = ap (λ (f : FilledRows). f.count) e in
    let few : (taken_in least done next rows).count ≤ done + 1 = by-test (λ (f : FilledRows). f.count ≤ done + 1) (short least (segment_in rows (done - 1))) (λ _. omega arith) (λ _. omega arith) in
    omega (arith, count, few)

-- ---- what the rows hold from the start
module _ {count : ℕ} {before : SegmentRows} (room : Room before count) (numbered : Numbered before.keys count) where
  key-own : (i : ℕ) → i < count → key_number (segment_in before i).key ≡ get_or before.keys i 0
  unfolding segment_in
  key-own i h = numbers-are-keys.number_back _ (numbered i h)

  -- the rows' own segments change nothing
  held-own : holding_segments (segments_in before count) before ≡ before
  unfolding segment_in
  held-own =
      same_rows
      (apart-own _ _ count _ nan room.starts (λ k h. refl))
      (apart-own _ _ count _ nan room.ends (λ k h. refl))
      (apart-own _ _ count _ 0 room.keys key-own)
      (apart-own _ _ count _ nan room.confidences (λ k h. refl))
      (apart-own _ _ count _ 0 room.counts (λ k h. refl))

  -- none is short: they stay as they are
  pub settled-none : (least : Float) {found : ℕ} → found ≡ first_short least (segments_in before count) → found ≡ count → filled_rows count before ≡ settled least (segments_in before count) before
  unfolding left_in shortened_of
  settled-none least f e =
      let segments = segments_in before count in
      let long : length segments ≡ count = length-list (segment_in before) count in
      let same : segments ≡ shortened_of least segments = sym (stays (length segments) least segments (long-settled least segments (omega (arith, long, f, e)))) in
      let none : length segments - length segments ≡ 0 = omega arith in
      ap (filled_rows count) (sym held-own)
      ∙ ap (λ (n : ℕ). filled_rows n (holding_segments segments before)) (sym long)
      ∙ ap (λ (l : List Segment). filled_rows (length segments) (holding_segments l before)) (sym (append-nil segments))
      ∙ ap (λ (n : ℕ). filled_rows (length segments) (holding_segments (segments ++ replicate n emptied) before)) (sym none)
      ∙ ap (λ (l : List Segment). filled_rows (length l) (holding_segments (l ++ replicate (length segments - length l) emptied) before)) same

-- The loop has come to a gap: `done` segments are kept before it, and those from `next` on are unread.
pub record Gap (least : Float) (count : ℕ) (before now : SegmentRows) (done next : ℕ) : Type 0 where
  pub kept : List Segment
  pub many : length kept ≡ done
  pub some : 0 < done
  pub apart : done ≤ next
  pub upto : next ≤ count
  pub fine : (i : ℕ) → i + 1 < done → short least (segment_at kept i) ≡ false
  pub ahead : shortened_of least (kept ++ drop next (segments_in before count)) ≡ shortened_of least (segments_in before count)
  pub few : total_windows (kept ++ drop next (segments_in before count)) < 2 ^ 32
  pub room : Room before count
  pub starts : Apart (λ (s : Segment). s.start) kept next before.starts now.starts
  pub ends : Apart (λ (s : Segment). s.end) kept next before.ends now.ends
  pub keys : Apart (λ (s : Segment). key_number s.key) kept next before.keys now.keys
  pub confidences : Apart (λ (s : Segment). s.confidence) kept next before.confidences now.confidences
  pub counts : Apart (λ (s : Segment). s.windows) kept next before.counts now.counts

-- a short one is found
pub found-there : (least : Float) {count found : ℕ} (before : SegmentRows) → found ≡ first_short least (segments_in before count) → (found ≡ count → ⊥) → found < count
found-there least {count} before f inside =
    let within = first_short-within least (segments_in before count) in
    omega (arith, f, inside, within, length-list (segment_in before) count)

-- those before it are kept, and it is the last of them
pub gap-start : {least : Float} {count found : ℕ} {before : SegmentRows} → Room before count → Numbered before.keys count → total_windows (segments_in before count) < 2 ^ 32 → found ≡ first_short least (segments_in before count) → (found ≡ count → ⊥) → Gap least count before before (found + 1) (found + 1)
unfolding first_short segment_in
gap-start {least} {count} {found} {before} room numbered few f inside =
    let segments = segments_in before count in
    let long : length segments ≡ count = length-list (segment_in before) count in
    let there = found-there least before f inside in
    let here : (k : ℕ) → k < found + 1 → segment_in before k ≡ segment_at segments k = λ k h. sym (segment-there before count k (omega (arith, h, there))) in
    let kept = segments_in before (found + 1) in
    let kept-long : length kept ≡ found + 1 = length-list (segment_in before) (found + 1) in
    let whole : kept ++ drop (found + 1) segments ≡ segments = ap (λ (n : ℕ). kept ++ drop n segments) (sym kept-long) ∙ ap (λ (l : List Segment). front l segments) (list_same (segment_in before) (λ (k : ℕ). segment_at segments k) (found + 1) here) ∙ sym (front-own segments (found + 1) emptied (omega (arith, long, there))) in
    record {
      kept = kept;
      many = kept-long;
      some = omega arith;
      apart = omega arith;
      upto = omega (arith, there);
      fine = λ i less. ap (short least) (segment-there before (found + 1) i (omega (arith, less)) ∙ here i (omega (arith, less))) ∙ first-before (λ (k : ℕ). short least (segment_at segments k)) (length segments) 0 i (omega arith) (omega (arith, less, f));
      ahead = ap (shortened_of least) whole;
      few = rw whole few;
      room = room;
      starts = apart-start _ _ _ _ nan (omega (arith, room.starts, there)) (λ k h. refl);
      ends = apart-start _ _ _ _ nan (omega (arith, room.ends, there)) (λ k h. refl);
      keys = apart-start _ _ _ _ 0 (omega (arith, room.keys, there)) (λ k h. key-own room numbered k (omega (arith, h, there)));
      confidences = apart-start _ _ _ _ nan (omega (arith, room.confidences, there)) (λ k h. refl);
      counts = apart-start _ _ _ _ 0 (omega (arith, room.counts, there)) (λ k h. refl);
    }

module _ {least : Float} {count : ℕ} {before now : SegmentRows} {done next : ℕ} (g : Gap least count before now done next) where
  abbrev segments : List Segment
  segments = segments_in before count

  -- the unread ones, and all that are left
  abbrev rest : List Segment
  rest = drop next segments

  abbrev all : List Segment
  all = g.kept ++ rest

  pub now-room : Room now count
  now-room =
      record {
        starts = rw g.starts.long g.room.starts;
        ends = rw g.ends.long g.room.ends;
        keys = rw g.keys.long g.room.keys;
        confidences = rw g.confidences.long g.room.confidences;
        counts = rw g.counts.long g.room.counts;
      }

  -- ---- what is read from the rows
  kept_row : (i : ℕ) → i < done → segment_in now i ≡ segment_at g.kept i
  unfolding segment_in
  kept_row i h =
      let there : i < length g.kept = omega (arith, g.many) in
      let start = apart-kept _ g.kept next g.starts i nan there in
      let end = apart-kept _ g.kept next g.ends i nan there in
      let key = ap key_at (apart-kept _ g.kept next g.keys i 0 there) ∙ numbers-are-keys.key_back (segment_at g.kept i).key in
      let confidence = apart-kept _ g.kept next g.confidences i nan there in
      let windows = apart-kept _ g.kept next g.counts i 0 there in
      λ j. segment (start j) (end j) (key j) (confidence j) (windows j)

  rest-row : (i : ℕ) → next ≤ i → segment_in now i ≡ segment_in before i
  unfolding segment_in
  rest-row i h =
      let start = apart-rest _ g.kept next g.starts i nan h in
      let end = apart-rest _ g.kept next g.ends i nan h in
      let key = ap key_at (apart-rest _ g.kept next g.keys i 0 h) in
      let confidence = apart-rest _ g.kept next g.confidences i nan h in
      let windows = apart-rest _ g.kept next g.counts i 0 h in
      λ j. segment (start j) (end j) (key j) (confidence j) (windows j)

  segments-long : length segments ≡ count
  segments-long = length-list (segment_in before) count

  all-long : length all ≡ done + (count - next)
  all-long = simp (length-append, length-drop, segments-long, g.many)

  at-kept : (i : ℕ) → i < done → segment_at all i ≡ segment_at g.kept i
  at-kept i h = get_or-append g.kept rest emptied i (omega (arith, g.many))

  at_next : next < count → segment_at all done ≡ segment_in now next
  at_next h =
      let at : done ≡ length g.kept + 0 = omega (arith, g.many) in
      ap (segment_at all) at
      ∙ get_or-append-add g.kept rest 0 emptied
      ∙ get_or-drop next segments 0 emptied
      ∙ ap (segment_at segments) (add-zero next)
      ∙ segment-there before count next h
      ∙ sym (rest-row next (omega arith))

  rest-next : next < count → rest ≡ segment_in now next ∷ drop (next + 1) segments
  rest-next h =
      let there : next < length segments = rw segments-long h in
      let suc-next : suc next ≡ next + 1 = omega arith in
      drop-cons segments next emptied there
      ∙ ap (λ (n : ℕ). segment_at segments next ∷ drop n segments) suc-next
      ∙ ap (λ (s : Segment). s ∷ drop (next + 1) segments) (segment-there before count next h ∙ sym (rest-row next (omega arith)))

  -- ---- a segment is put behind the first p
  gap-put : (p next' : ℕ) (x : Segment) → p ≤ done → p < next' → next ≤ next' → next' ≤ count → ((i : ℕ) → i < p → short least (segment_at g.kept i) ≡ false)
      → shortened_of least ((take p g.kept ++ (x ∷ [])) ++ drop next' segments) ≡ shortened_of least all → total_windows ((take p g.kept ++ (x ∷ [])) ++ drop next' segments) ≡ total_windows all
      → Gap least count before (put_segment x p now) (p + 1) next'
  gap-put p next' x h less onward upto fine same total =
      let within : p ≤ length g.kept = omega (arith, g.many) in
      let long = length-take-le p g.kept within in
      record {
        kept = take p g.kept ++ (x ∷ []);
        many = length-append (take p g.kept) (x ∷ []) ∙ ap (λ (n : ℕ). n + 1) long;
        some = omega arith;
        apart = omega arith;
        upto = upto;
        fine = λ i k. let i-less : i < p = omega (arith, k) in ap (short least) (get_or-append (take p g.kept) (x ∷ []) emptied i (rw long i-less) ∙ get_or-take p g.kept i emptied i-less) ∙ fine i i-less;
        ahead = same ∙ g.ahead;
        few = rw total g.few;
        room = g.room;
        starts = apart-put _ g.kept next g.starts p next' x within less onward (omega (arith, g.room.starts));
        ends = apart-put _ g.kept next g.ends p next' x within less onward (omega (arith, g.room.ends));
        keys = apart-put _ g.kept next g.keys p next' x within less onward (omega (arith, g.room.keys));
        confidences = apart-put _ g.kept next g.confidences p next' x within less onward (omega (arith, g.room.confidences));
        counts = apart-put _ g.kept next g.counts p next' x within less onward (omega (arith, g.room.counts));
      }

  -- ---- the last one kept
  abbrev last : ℕ
  last = done - 1

  last-is : segment_in now last ≡ segment_at g.kept last
  last-is = kept_row last (omega (arith, g.some))

  abbrev last-short : Bool
  last-short = short_in least now.starts now.ends last

  short-is : {answer : Bool} → last-short ≡ answer → short least (segment_in now last) ≡ answer
  short-is t = sym (short-there now least last) ∙ t

  first-is : short least (segment_in now last) ≡ true → first_short least all ≡ last
  first-is t =
      let some = g.some in
      first_short-at least all last (omega (arith, all-long)) (λ k less. ap (short least) (at-kept k (omega (arith, less))) ∙ g.fine k (omega (arith, less))) (ap (short least) (at-kept last (omega arith) ∙ sym last-is) ∙ t)

  -- which of the two that join is the earlier
  abbrev seconds-back : Bool
  seconds-back = le (seconds_in now.starts now.ends next) (seconds_in now.starts now.ends (last - 1))

  keeper-inner : 0 < last → keeper all last ≡ cond (cond (eqb next count) true seconds-back) (last - 1) last
  unfolding keeper
  keeper-inner inner =
      let not_first : eqb last 0 ≡ false = ne_eqb last 0 (λ z. omega (arith, z)) in
      let long = all-long in
      elim (eq-or-lt_of_le g.upto) [
        | inl end ↦ let full : last + 1 ≡ length all = omega (arith, end, long) in rw (not_first, eq-eqb (last + 1) (length all) full, eq-eqb next count end)
        | inr more ↦
            let next-there : last + 1 ≡ done = omega arith in
            let later : segment_at all (last + 1) ≡ segment_in now next = ap (segment_at all) next-there ∙ at_next more in
            let earlier : segment_at all (last - 1) ≡ segment_in now (last - 1) = at-kept (last - 1) (omega arith) ∙ sym (kept_row (last - 1) (omega arith)) in
            rw (not_first, ne_eqb (last + 1) (length all) (λ z. omega (arith, z, more, long)), ne_eqb next count (λ z. omega (arith, z, more)), later, earlier, seconds-there now next, seconds-there now (last - 1))
      ]

  keeper-is : keeper all last ≡ cond (prefers_back done next count now.starts now.ends) (last - 1) last
  unfolding keeper prefers_back
  keeper-is =
      let low : 0 ≤ last = omega arith in
      elim (eq-or-lt_of_le low) [
        | inl first ↦ rw (eq-eqb last 0 (sym first)) first
        | inr inner ↦ keeper-inner inner ∙ rw (ne_eqb last 0 (λ z. omega (arith, z, inner)))
      ]

  has-before : prefers_back done next count now.starts now.ends ≡ true → 0 < last
  unfolding prefers_back
  has-before b =
      let low : 0 ≤ last = omega arith in
      elim (eq-or-lt_of_le low) [
        | inl first ↦ absurd (subst T (sym (rw (eq-eqb last 0 (sym first)) at b)) tt)
        | inr inner ↦ inner
      ]

  has-none : prefers_back done next count now.starts now.ends ≡ false → next ≡ count → last ≡ 0
  unfolding prefers_back
  has-none b end =
      let low : 0 ≤ last = omega arith in
      elim (eq-or-lt_of_le low) [
        | inl first ↦ sym first
        | inr inner ↦ absurd (subst T (rw (ne_eqb last 0 (λ z. omega (arith, z, inner)), eq-eqb next count end) at b) tt)
      ]

  pub back-two : {flag : Bool} → flag ≡ joins_back least done next count now.starts now.ends → flag ≡ true → 2 ≤ done
  unfolding joins_back
  back-two f t = let inner = has-before (both last-short (prefers_back done next count now.starts now.ends) (sym f ∙ t)).1 in omega arith

  room_of : (n : ℕ) → n ≤ count → Room now n
  room_of n h =
      let room = now-room in
      record { starts = omega (arith, room.starts); ends = omega (arith, room.ends); keys = omega (arith, room.keys); confidences = omega (arith, room.confidences); counts = omega (arith, room.counts) }

  pub back-room : {flag : Bool} → flag ≡ joins_back least done next count now.starts now.ends → flag ≡ true → Room now (last - 1 + 2)
  back-room f t = let two = back-two f t in room_of (last - 1 + 2) (omega (arith, g.apart, g.upto))

  pub more_room : (next ≡ count → ⊥) → Room now (next + 1)
  more_room inside = room_of (next + 1) (omega (arith, inside, g.upto))

  -- the windows of two that are left are no more than those of all
  two-few : (i j : ℕ) → i < j → j < length all → Joinable (segment_at all i) (segment_at all j)
  two-few i j less h = let two = two-within all i j less h in omega (arith, two, g.few)

  pub back-few : {flag : Bool} → flag ≡ joins_back least done next count now.starts now.ends → flag ≡ true → JoinableRows (last - 1) (last - 1 + 1) now
  back-few f t =
      let two = back-two f t in
      let at : (i : ℕ) → i < done → segment_at all i ≡ segment_in now i = λ i h. at-kept i h ∙ sym (kept_row i h) in
      rw (sym (at (last - 1) (omega arith)), sym (at (last - 1 + 1) (omega arith))) (two-few (last - 1) (last - 1 + 1) (omega arith) (omega (arith, all-long)))

  pub more-few : (next ≡ count → ⊥) → JoinableRows last next now
  more-few inside =
      let some = g.some in
      let upto = g.upto in
      let more : next < count = omega (arith, inside) in
      rw (last-is ∙ sym (at-kept last (omega arith)), sym (at_next more)) (two-few last done (omega arith) (omega (arith, all-long, more)))

  -- what a join leaves becomes what all become
  join-same : (p : ℕ) {left : List Segment} → short least (segment_in now last) ≡ true → 1 < length all → keeper all last ≡ p → join_at p all ≡ left → shortened_of least left ≡ shortened_of least all
  unfolding join_short
  join-same p s several k e =
      let first = first-is s in
      let there : first_short least all < length all = omega (arith, first, all-long, g.some) in
      ap (shortened_of least) (sym (ap (λ (i : ℕ). join_at (keeper all i) all) first ∙ ap (λ (q : ℕ). join_at q all) k ∙ e)) ∙ shortened-join least all (to-join least all several there)

  join-total : (p : ℕ) {left : List Segment} → p + 1 < length all → join_at p all ≡ left → total_windows left ≡ total_windows all
  join-total p h e = ap total_windows (sym e) ∙ (counts-stay all).joined p h

  joined_back : (p : ℕ) → p + 2 ≡ done → join_at p all ≡ (take p g.kept ++ (joined (segment_in now p) (segment_in now (p + 1)) ∷ [])) ++ rest
  unfolding join_at
  joined_back p e =
      let first : segment_at all p ≡ segment_in now p = at-kept p (omega arith) ∙ sym (kept_row p (omega arith)) in
      let second : segment_at all (p + 1) ≡ segment_in now (p + 1) = at-kept (p + 1) (omega arith) ∙ sym (kept_row (p + 1) (omega arith)) in
      rw (first, second, take-append-le p g.kept rest (omega (arith, g.many)), drop_at g.kept rest (p + 2) (g.many ∙ sym e)) (sym (append_snoc (take p g.kept) (joined (segment_in now p) (segment_in now (p + 1))) rest))

  joined-on : next < count → join_at last all ≡ (take last g.kept ++ (joined (segment_in now last) (segment_in now next) ∷ [])) ++ drop (next + 1) segments
  unfolding join_at
  joined-on more =
      let some = g.some in
      let many = g.many in
      let first : segment_at all last ≡ segment_in now last = at-kept last (omega arith) ∙ sym last-is in
      let at : last + 1 ≡ done = omega arith in
      let second : segment_at all (last + 1) ≡ segment_in now next = ap (segment_at all) at ∙ at_next more in
      let behind : last + 2 ≡ length g.kept + 1 = omega arith in
      let unread : drop (last + 2) all ≡ drop (next + 1) segments = ap (λ (n : ℕ). drop n all) behind ∙ drop-append-add g.kept rest 1 ∙ drop-drop 1 next segments in
      rw (first, second, take-append-le last g.kept rest (omega arith), unread) (sym (append_snoc (take last g.kept) (joined (segment_in now last) (segment_in now next)) (drop (next + 1) segments)))

  -- none is short where the last one isn't
  fine-last : short least (segment_in now last) ≡ false → (i : ℕ) → i < done → short least (segment_at g.kept i) ≡ false
  fine-last long i h =
      let low : i ≤ last = omega arith in
      elim (eq-or-lt_of_le low) [
        | inl same ↦ ap (λ (k : ℕ). short least (segment_at g.kept k)) same ∙ ap (short least) (sym last-is) ∙ long
        | inr less ↦ g.fine i (omega (arith, less))
      ]

  -- ---- the ways through a turn
  pub gap_back : {flag : Bool} {p : ℕ} {after : SegmentRows} → flag ≡ joins_back least done next count now.starts now.ends → flag ≡ true → p ≡ last - 1 → after ≡ joined_rows p now → Gap least count before after last next
  unfolding joins_back
  gap_back {p = p} {after = after} f t e put =
      let (s, b) = both last-short (prefers_back done next count now.starts now.ends) (sym f ∙ t) in
      let inner = has-before b in
      let apart = g.apart in
      let two : p + 2 ≡ done = omega arith in
      let one : p + 1 ≡ last = omega arith in
      let keeps : keeper all last ≡ p = keeper-is ∙ ap (λ (c : Bool). cond c (last - 1) last) b ∙ sym e in
      let x = joined (segment_in now p) (segment_in now (p + 1)) in
      let same = join-same p (short-is s) (omega (arith, all-long)) keeps (joined_back p two) in
      let total = join-total p (omega (arith, all-long)) (joined_back p two) in
      let more = gap-put p next x (omega arith) (omega arith) (omega arith) g.upto (λ i less. g.fine i (omega (arith, less))) same total in
      subst (λ (n : ℕ). Gap least count before after n next) one (subst (λ (r : SegmentRows). Gap least count before r (p + 1) next) (sym put) more)

  pub gap_more : {flag : Bool} {found : ℕ} {after : SegmentRows} → flag ≡ joins_back least done next count now.starts now.ends → flag ≡ false → (next ≡ count → ⊥) → filled_rows found after ≡ taken_in least done next now → Gap least count before after found (next + 1)
  unfolding joins_back taken_in
  gap_more {found = found} {after = after} f t inside e =
      let upto = g.upto in
      let more : next < count = omega (arith, inside) in
      elim (not-both last-short (prefers_back done next count now.starts now.ends) (sym f ∙ t)) [
        | inl long ↦ subst (λ (f : FilledRows). Gap least count before f.rows f.count (next + 1)) (sym (rw (short-is long) at e)) (reads (short-is long) more)
        | inr joins ↦ subst (λ (f : FilledRows). Gap least count before f.rows f.count (next + 1)) (sym (rw (short-is joins.0) at e)) (goes_on (short-is joins.0) joins.1 more)
      ]
    where
      reads : short least (segment_in now last) ≡ false → next < count → Gap least count before (put_segment (segment_in now next) done now) (done + 1) (next + 1)
      reads long more =
          let same : (take done g.kept ++ (segment_in now next ∷ [])) ++ drop (next + 1) segments ≡ all = append_snoc (take done g.kept) (segment_in now next) (drop (next + 1) segments) ∙ ap (λ (l : List Segment). take done g.kept ++ l) (sym (rest-next more)) ∙ ap (λ (l : List Segment). l ++ rest) (ap (λ (n : ℕ). take n g.kept) (sym g.many) ∙ take-length g.kept) in
          gap-put done (next + 1) (segment_in now next) (omega arith) (omega (arith, g.apart)) (omega arith) (omega arith) (fine-last long) (ap (shortened_of least) same) (ap total_windows same)

      goes_on : short least (segment_in now last) ≡ true → prefers_back done next count now.starts now.ends ≡ false → next < count → Gap least count before (put_segment (joined (segment_in now last) (segment_in now next)) last now) done (next + 1)
      goes_on s b more =
          let some = g.some in
          let apart = g.apart in
          let one : last + 1 ≡ done = omega arith in
          let keeps : keeper all last ≡ last = keeper-is ∙ ap (λ (c : Bool). cond c (last - 1) last) b in
          let same = join-same last s (omega (arith, all-long)) keeps (joined-on more) in
          let total = join-total last (omega (arith, all-long)) (joined-on more) in
          subst (λ (n : ℕ). Gap least count before (put_segment (joined (segment_in now last) (segment_in now next)) last now) n (next + 1)) one
          (gap-put last (next + 1) (joined (segment_in now last) (segment_in now next)) (omega arith) (omega arith) (omega arith) (omega arith) (λ i less. g.fine i (omega (arith, less))) same total)

  -- ---- the end
  all_read : next ≡ count → all ≡ g.kept
  all_read end = ap (λ (n : ℕ). g.kept ++ drop n segments) (end ∙ sym segments-long) ∙ ap (λ (l : List Segment). g.kept ++ l) (drop-length segments) ∙ append-nil g.kept

  nothing_left : joins_back least done next count now.starts now.ends ≡ false → next ≡ count → T (not (unsettled least g.kept))
  unfolding joins_back
  nothing_left t end =
      elim (not-both last-short (prefers_back done next count now.starts now.ends) t) [
        | inl long ↦ none-to-join least g.kept (λ i h. fine-last (short-is long) i (omega (arith, h, g.many)))
        | inr joins ↦ let one = has-none joins.1 end in few-settled least g.kept (omega (arith, one, g.many, g.some))
      ]

  pub gap-end : {flag : Bool} {after : SegmentRows} → flag ≡ joins_back least done next count now.starts now.ends → flag ≡ false → next ≡ count → after ≡ emptied_rows done count now → filled_rows done after ≡ settled least segments before
  unfolding left_in shortened_of
  gap-end f t end put =
      let kept = g.kept in
      let ready : length kept ≤ next = omega (arith, g.many, g.apart) in
      let full : next ≡ length segments = end ∙ sym segments-long in
      let same : kept ≡ shortened_of least segments = sym (stays (length kept) least kept (nothing_left (sym f ∙ t) end)) ∙ ap (shortened_of least) (sym (all_read end)) ∙ g.ahead in
      let rows : emptied_rows (length kept) next now ≡ holding_segments (kept ++ replicate (next - length kept) emptied) before = same_rows (apart-end _ kept next g.starts ready) (apart-end _ kept next g.ends ready) (apart-end _ kept next g.keys ready) (apart-end _ kept next g.confidences ready) (apart-end _ kept next g.counts ready) in
      ap (filled_rows done) (put ∙ ap (λ (n : ℕ). emptied_rows n count now) (sym g.many) ∙ ap (λ (n : ℕ). emptied_rows (length kept) n now) (sym end) ∙ rows)
      ∙ ap (λ (n : ℕ). filled_rows n (holding_segments (kept ++ replicate (next - length kept) emptied) before)) (sym g.many)
      ∙ ap (λ (n : ℕ). filled_rows (length kept) (holding_segments (kept ++ replicate (n - length kept) emptied) before)) full
      ∙ ap (λ (l : List Segment). filled_rows (length l) (holding_segments (l ++ replicate (length segments - length l) emptied) before)) same
