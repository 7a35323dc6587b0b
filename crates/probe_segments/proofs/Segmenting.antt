-- What the guards of the segments' probes tell, and what is answered on either side of them.
use mathlib.Core.Path.{◌≡◌, refl, sym, ap, subst, ◌∙◌}
use mathlib.Core.Logic.{inl, inr}
use mathlib.Core.Bool.{Bool, true, false, not}
use mathlib.Core.List.{List, [], ◌∷◌}
use Prim.Native.Nat.{ℕ, zero, suc, ◌+◌, ◌^◌, ◌<◌, ◌≤◌, min}
use native.Mathlib.Numerals.{add-one}
use native.Mathlib.Omega.{arith}
use borrow.Author.Tests.{lt-ltb, le-ltb, ltb-true, leb-true, eqb-true, not-true, not-false}
use lib.Dec.{T, eqb, ltb, leb, ltb→lt}
use lib.ListN.{length, get_or, take}
use lib.Seq.{get_or-take, length-take-le}
use lib.Ieee.{Float, lt}
use lib.Ieee.Fits.{and_l, and_r}
use Rattle.laws.specs.Every.{every}
use Rattle.laws.specs.Front.{list}
use Rattle.laws.specs.Values.{plus_zero, clear}
use Rattle.laws.proofs.Cases.{lt-or-ge}
use Rattle.laws.proofs.Every.{each}
use Rattle.laws.proofs.Table.{each_of}
use Rattle.laws.proofs.Zero.{above-clear}
use Rattle.calls.specs.declared.Settings.{Settings}
use Rattle.timeline.specs.Estimates.{EstimateRows, estimate_room}
use Rattle.timeline.specs.inside.Estimates.{Columns, estimates_in, Numbered, Found}
use Rattle.timeline.specs.Segments.{SegmentRows, segment_in, segments_in, segment_room}
use Rattle.timeline.specs.Counts.{total_windows}
use Rattle.timeline.specs.inside.Segments.{Room, FilledRows, filled_rows}
use Rattle.timeline.proofs.Rooms.{room_within, estimates-within}
use Rattle.timeline.proofs.Counts.{total-append}
use Rattle.windows.specs.Span.{span_of, rows_asked, windows_of}
use Rattle.windows.specs.declared.span.Span.{Span}
use Rattle.windows.proofs.Spans.{windows-asked}
use Rattle.shortening.specs.inside.Settled.{settled}
use Rattle.segments.specs.inside.Fill.{filled_of}
use Rattle.segments.specs.inside.Located.{LocatedIn, located_in, located_of, Prepared}
use Rattle.segments.specs.declared.fill.Track.{Track}
use Rattle.segments.specs.declared.track.Located.{Located}
use Rattle.probe_segments.specs.Segments.{is_number, all_numbers, counts_upto, few_windows, can_shorten, probed_shorten, cut_fits, probed_cut, heard_in, can_run, counted, probed, probed_segments}

pub numbered : (keys : List ℕ) (count : ℕ) → T (all_numbers keys count) → Numbered keys count
numbered keys count e i h = ltb→lt (get_or keys i 0) 24 (each (is_number keys) count e i h)

-- what a guard's flag says of what it stands for
failed : {flag test : Bool} → flag ≡ test → not flag ≡ true → test ≡ false
failed {flag} e t = sym e ∙ not-true flag t

passed : {flag test : Bool} → flag ≡ test → not flag ≡ false → test ≡ true
passed {flag} e t = sym e ∙ not-false flag t

-- a number held at a bound that is no lower than a limit is below the limit where the number is
pub held_below : (n limit bound : ℕ) {held : ℕ} → limit ≤ bound → held ≡ min n bound → ltb held limit ≡ ltb n limit
held_below n limit bound {held} h e =
    elim (lt-or-ge n limit) [
      | inl low ↦ lt-ltb held limit (omega (arith, e, low, h)) ∙ sym (lt-ltb n limit low)
      | inr high ↦ le-ltb held limit (omega (arith, e, high, h)) ∙ sym (le-ltb n limit high)
    ]

-- one count more
pub counts-more : (counts : List ℕ) (i : ℕ) → counts_upto counts (i + 1) ≡ counts_upto counts i + get_or counts i 0
unfolding counts_upto
counts-more counts i = ap (counts_upto counts) (add-one i)

-- a list's first numbers and counts are those of a list of them alone
numbers-upto : (keys : List ℕ) (n k : ℕ) → k ≤ n → all_numbers (take n keys) k ≡ all_numbers keys k
unfolding every
numbers-upto keys n zero h = refl
numbers-upto keys n (suc k) h = rw (numbers-upto keys n k (omega arith), get_or-take n keys k 0 h)

counts-taken : (counts : List ℕ) (n k : ℕ) → k ≤ n → counts_upto (take n counts) k ≡ counts_upto counts k
unfolding counts_upto
counts-taken counts n zero h = refl
counts-taken counts n (suc k) h = rw (counts-taken counts n k (omega arith), get_or-take n counts k 0 h)

pub numbers-taken : (keys : List ℕ) (n : ℕ) → n ≤ length keys → all_numbers (take n keys) (length (take n keys)) ≡ all_numbers keys n
numbers-taken keys n h = ap (all_numbers (take n keys)) (length-take-le n keys h) ∙ numbers-upto keys n n (omega arith)

pub few-taken : (counts : List ℕ) (n : ℕ) → n ≤ length counts → few_windows (take n counts) (length (take n counts)) ≡ few_windows counts n
few-taken counts n h = ap (few_windows (take n counts)) (length-take-le n counts h) ∙ ap (λ (sum : ℕ). ltb sum 4_294_967_296) (counts-taken counts n n (omega arith))

-- the counts in the rows are the segments' own
counts-are : (rows : SegmentRows) (count : ℕ) → counts_upto rows.counts count ≡ total_windows (segments_in rows count)
unfolding counts_upto total_windows list segment_in
counts-are rows zero = refl
counts-are rows (suc k) =
    let sum = total-append (segments_in rows k) (segment_in rows k ∷ []) in
    let before = counts-are rows k in
    omega (arith, sum, before)

module _ (least : Float) (rows : SegmentRows) {count : ℕ} {flag : Bool} (all : count ≡ segment_room rows) (told : flag ≡ can_shorten rows.keys rows.counts count) where
  known : {b : Bool} → can_shorten rows.keys rows.counts count ≡ b → can_shorten rows.keys rows.counts (segment_room rows) ≡ b
  known e = ap (can_shorten rows.keys rows.counts) (sym all) ∙ e

  pub not-shortened : not flag ≡ true → filled_rows 0 rows ≡ probed_shorten least rows
  not-shortened t = rw (known (failed told t))

  pub shorten-needs : not flag ≡ false → Room rows count × Numbered rows.keys count × (total_windows (segments_in rows count) < 2 ^ 32)
  shorten-needs t =
      let tests = subst T (sym (passed told t)) tt in
      let few = ltb→lt (counts_upto rows.counts count) 4_294_967_296 (and_r (all_numbers rows.keys count) (few_windows rows.counts count) tests) in (
        room_within rows count (omega (arith, all)),
        numbered rows.keys count (and_l (all_numbers rows.keys count) (few_windows rows.counts count) tests),
        omega (arith, few, counts-are rows count),
      )

  pub shortened : {out : FilledRows} → not flag ≡ false → out ≡ settled least (segments_in rows count) rows → out ≡ probed_shorten least rows
  shortened t e = e ∙ ap (λ (n : ℕ). settled least (segments_in rows n) rows) all ∙ rw (known (passed told t))

module _ (t : Track) (e : Columns) (rows : SegmentRows) {room : ℕ} {fit : Bool} (all : room ≡ segment_room rows) (told : fit ≡ cut_fits (length e.centres) (length e.keys) (length e.confidences) room) where
  abbrev tests : ℕ → Bool
  tests lent = cut_fits (length e.centres) (length e.keys) (length e.confidences) lent

  fitting : {b : Bool} → tests room ≡ b → tests (segment_room rows) ≡ b
  fitting p = ap tests (sym all) ∙ p

  pub not-fit : not fit ≡ true → filled_rows 0 rows ≡ probed_cut t e rows
  not-fit f = rw (fitting (failed told f))

  module _ {flag : Bool} (good : not fit ≡ false) (numbers : flag ≡ all_numbers e.keys (length e.keys)) where
    pub not-numbered : not flag ≡ true → filled_rows 0 rows ≡ probed_cut t e rows
    not-numbered f = rw (fitting (passed told good), failed numbers f)

    pub cut-needs : not flag ≡ false → Found e (length e.keys) × Room rows (length e.keys) × Room rows 1
    cut-needs f =
        let found = length e.keys in
        let test = each_of (eqb (length e.centres) found ∷ eqb (length e.confidences) found ∷ leb found room ∷ leb 1 room ∷ ltb found 4_294_967_296 ∷ []) (passed told good) in
        let centres = eqb-true (length e.centres) found (test 0) in
        let confidences = eqb-true (length e.confidences) found (test 1) in
        let within = leb-true found room (test 2) in
        let one = leb-true 1 room (test 3) in
        let few = ltb-true found 4_294_967_296 (test 4) in (
          record { centres = omega (arith, centres); keys = omega arith; confidences = omega (arith, confidences); numbered = numbered e.keys found (subst T (sym (passed numbers f)) tt); few = few },
          room_within rows found (omega (arith, within, all)),
          room_within rows 1 (omega (arith, one, all)),
        )

    pub cut-so : {out : FilledRows} {track : Track} → not flag ≡ false → track ≡ t → out ≡ filled_of track (estimates_in e (length e.keys)) rows → out ≡ probed_cut t e rows
    cut-so f same out = out ∙ ap (λ (x : Track). filled_of x (estimates_in e (length e.keys)) rows) same ∙ rw (fitting (passed told good), passed numbers f)

module _ (s : Settings) (samples : ℕ) (t : Track) (centres : List Float) (values : List (List Float)) (e : EstimateRows) (rows : SegmentRows) {span : Span} {asked estimates room : ℕ} {flag : Bool} (spans : span ≡ span_of s samples) (asks : asked ≡ rows_asked span) (lent : estimates ≡ estimate_room e) (left : room ≡ segment_room rows) (told : flag ≡ can_run s.local_hop_seconds asked estimates room) where
  abbrev guard : Bool
  guard = can_run s.local_hop_seconds (rows_asked (span_of s samples)) (estimate_room e) (segment_room rows)

  guarded : {b : Bool} → can_run s.local_hop_seconds asked estimates room ≡ b → guard ≡ b
  guarded p =
      let at : rows_asked (span_of s samples) ≡ asked = ap rows_asked (sym spans) ∙ sym asks in
      rw (at, ← lent, ← left) p

  pub not-run : not flag ≡ true → probed (counted 8 0 0) e rows ≡ probed_segments s samples t (heard_in centres values) e rows
  not-run f = rw (guarded (failed told f))

  pub locate-needs : {frames : ℕ} → not flag ≡ false → frames ≡ min (length centres) (length values) → Prepared span (record { frames = frames; centres = centres; values = values }) e rows
  unfolding span_of
  locate-needs {frames} f many =
      let hop = s.local_hop_seconds in
      let test = each_of (lt plus_zero hop ∷ leb asked estimates ∷ leb asked room ∷ leb 1 room ∷ []) (passed told f) in
      let onward : T (clear (span_of s samples).hop) = above-clear hop (subst T (sym (test 0)) tt) in
      let first = leb-true asked estimates (test 1) in
      let second = leb-true asked room (test 2) in
      let one = leb-true 1 room (test 3) in
      let few = windows-asked span in
      let there = estimates-within e (windows_of span) (omega (arith, first, few, asks, lent)) in
      record {
        ready = record { onward = subst (λ (x : Span). T (clear x.hop)) (sym spans) onward; timed = omega (arith, many); valued = omega (arith, many); centres = there.0; keys = there.1; confidences = there.2; shapeless = there.3 };
        room = room_within rows (windows_of span) (omega (arith, second, few, asks, left));
        one = room_within rows 1 (omega (arith, one, left));
      }

  pub located-so : {frames : ℕ} {track : Track} {located : Located} {e' : EstimateRows} {rows' : SegmentRows} → not flag ≡ false → frames ≡ min (length centres) (length values) → track ≡ t
      → located_in located e' rows' ≡ located_of span track (record { frames = frames; centres = centres; values = values }) e rows → probed (counted 0 located.estimates located.segments) e' rows' ≡ probed_segments s samples t (heard_in centres values) e rows
  located-so {frames} {track} {located} {e'} {rows'} f many same found =
      let here : located_in located e' rows' ≡ located_of (span_of s samples) t (heard_in centres values) e rows = found
      ∙ ap (λ (x : Span). located_of x track (record { frames = frames; centres = centres; values = values }) e rows) spans
      ∙ ap (λ (x : Track). located_of (span_of s samples) x (record { frames = frames; centres = centres; values = values }) e rows) same
      ∙ ap (λ (n : ℕ). located_of (span_of s samples) t (record { frames = n; centres = centres; values = values }) e rows) many in
      ap (λ (o : LocatedIn). probed (counted 0 o.answer.estimates o.answer.segments) o.estimates o.segments) here ∙ rw (guarded (passed told f))
