-- Laws of cutting, which the proof of `cut_groups` cites, a law for each way through a turn.
use Rattle.std.proofs.Common.{◌≡◌, ℕ, ◌+◌, ◌-◌, ◌<◌, ◌≤◌, Bool, true, false, cond, List, [], ◌∷◌, ◌++◌, length, sym, refl, ap, ◌∙◌, subst, arith, length-append}
use lib.Ieee.{Float}
use Rattle.laws.specs.Turns.{turns}
use Rattle.laws.specs.Values.{plus_zero}
use Rattle.laws.proofs.Turns.{turns-start, turns-again, turns-end}
use Rattle.laws.proofs.Front.{length-list, get_or-list}
use Rattle.timeline.specs.Estimates.{no_estimate}
use Rattle.timeline.specs.inside.Estimates.{Columns, estimate_in, estimates_in, Found}
use Rattle.timeline.specs.Segments.{SegmentRows, holding_segments}
use Rattle.timeline.specs.inside.Segments.{Room, filled_rows, standing, put_segment}
use Rattle.timeline.specs.declared.estimate.Estimate.{Estimate}
use Rattle.timeline.specs.declared.segment.Segment.{Segment}
use Rattle.timeline.proofs.Segments.{Holds, holds-start, holds_more, holds-all}
use Rattle.splits.specs.Splits.{splits, border_of}
use Rattle.splits.specs.inside.Columns.{splits_in, border_in}
use Rattle.groups.specs.Groups.{between, estimate_at, groups_of}
use Rattle.groups.specs.inside.Written.{grouped}
use Rattle.groups.proofs.Loop.{group_from, Cutting, cutting, cut_turn, closed, groups-loop}
use Rattle.groups.proofs.Parts.{group-in-rows}

-- what is read in the columns of two windows is what their estimates say
split-read : (threshold : Float) (rows : Columns) (i j : ℕ) → splits_in threshold rows.keys rows.confidences i j ≡ splits threshold (estimate_in rows i) (estimate_in rows j)
unfolding splits_in splits estimate_in
split-read threshold rows i j = refl

border-read : (rows : Columns) (i j : ℕ) → border_in rows.centres i j ≡ border_of (estimate_in rows i) (estimate_in rows j)
unfolding border_in border_of estimate_in
border-read rows i j = refl

-- Cutting has come to estimate j: n segments are cut off and stand in the rows, and a group is being gathered.
pub record Cut (rows : Columns) (threshold : Float) (found : ℕ) (before now : SegmentRows) (from : ℕ) (start : Float) (n j : ℕ) : Type 0 where
  pub some : 0 < found
  pub there : Found rows found
  pub room : Room before found
  pub done : List Segment
  pub count : n ≡ length done
  pub few : n ≤ from
  pub behind : from ≤ j
  pub upto : j + 1 ≤ found
  pub ahead : turns (cut_turn threshold (estimates_in rows found)) (found - 1 - j) j (cutting done from start) ≡ turns (cut_turn threshold (estimates_in rows found)) (found - 1) 0 (cutting [] 0 plus_zero)
  pub holds : Holds done before now

pub cut-start : {rows : Columns} {threshold : Float} {found : ℕ} {before : SegmentRows} → 0 < found → Found rows found → Room before found → Cut rows threshold found before before 0 plus_zero 0 0
cut-start {before = before} h there room =
    record {
      some = h;
      there = there;
      room = room;
      done = [];
      count = refl;
      few = omega arith;
      behind = omega arith;
      upto = omega arith;
      ahead = turns-start _ _ _;
      holds = holds-start before;
    }

module _ {rows : Columns} {threshold : Float} {found : ℕ} {before now : SegmentRows} {from : ℕ} {start : Float} {n j : ℕ} (cut : Cut rows threshold found before now from start n j) where
  abbrev estimates : List Estimate
  estimates = estimates_in rows found

  read : (i : ℕ) → i < found → estimate_at estimates i ≡ estimate_in rows i
  read i h = get_or-list (estimate_in rows) found i no_estimate h

  -- the turn at j, where the windows j and j + 1 are known
  abbrev turned : Bool → Cutting
  turned b =
      cond b
      (cutting (cut.done ++ (group_from estimates from (j + 1) start (border_of (estimate_in rows j) (estimate_in rows (j + 1))) ∷ [])) (j + 1) (border_of (estimate_in rows j) (estimate_in rows (j + 1))))
      (cutting cut.done from start)

  turn_is : j < found - 1 → (b : Bool) → splits_in threshold rows.keys rows.confidences j (j + 1) ≡ b → cut_turn threshold estimates j (cutting cut.done from start) ≡ turned b
  unfolding cut_turn
  turn_is h b e = rw (read j (omega arith), read (j + 1) (omega arith), sym (split-read threshold rows j (j + 1)) ∙ e)

  pub cut_on : j < found - 1 → splits_in threshold rows.keys rows.confidences j (j + 1) ≡ false → Cut rows threshold found before now from start n (j + 1)
  cut_on h e =
      record {
        some = cut.some;
        there = cut.there;
        room = cut.room;
        done = cut.done;
        count = cut.count;
        few = cut.few;
        behind = omega (arith, cut.behind);
        upto = omega arith;
        ahead = turns-again (cut_turn threshold estimates) (found - 1) j cut.ahead h (sym (turn_is h false e));
        holds = cut.holds;
      }

  room-left : Room before (n + 1)
  room-left =
      let less : n + 1 ≤ found = omega (arith, cut.few, cut.behind, cut.upto) in
      record {
        starts = omega (arith, cut.room.starts);
        ends = omega (arith, cut.room.ends);
        keys = omega (arith, cut.room.keys);
        confidences = omega (arith, cut.room.confidences);
        counts = omega (arith, cut.room.counts);
      }

  -- the rows are as long as before
  pub room-now : Room now (n + 1)
  room-now =
      let left = room-left in
      record {
        starts = omega (arith, left.starts, cut.holds.starts.long);
        ends = omega (arith, left.ends, cut.holds.ends.long);
        keys = omega (arith, left.keys, cut.holds.keys.long);
        confidences = omega (arith, left.confidences, cut.holds.confidences.long);
        counts = omega (arith, left.counts, cut.holds.counts.long);
      }

  -- the group up to `to`, written into the next row
  written : {after : SegmentRows} (to : ℕ) (end : Float) → from ≤ to → to ≤ found → after ≡ put_segment (grouped start end (between rows.keys from to) (between rows.confidences from to)) n now
      → Holds (cut.done ++ (group_from estimates from to start end ∷ [])) before after
  written to end h k a =
      subst (Holds _ before) (sym (a ∙ ap (λ (s : Segment). put_segment s n now) (group-in-rows rows found cut.there from to start end h k)))
      (holds_more cut.done (group_from estimates from to start end) before now n cut.count room-left cut.holds)

  pub cut_off : {border : Float} {after : SegmentRows} → j < found - 1 → splits_in threshold rows.keys rows.confidences j (j + 1) ≡ true → border ≡ border_in rows.centres j (j + 1)
      → after ≡ put_segment (grouped start border (between rows.keys from (j + 1)) (between rows.confidences from (j + 1))) n now → Cut rows threshold found before after (j + 1) border (n + 1) (j + 1)
  cut_off {border} {after} h e read_off a =
      let b = read_off ∙ border-read rows j (j + 1) in
      subst (λ (x : Float). Cut rows threshold found before after (j + 1) x (n + 1) (j + 1)) (sym b)
      (record {
        some = cut.some;
        there = cut.there;
        room = cut.room;
        done = cut.done ++ (group_from estimates from (j + 1) start edge ∷ []);
        count = simp length-append (omega (arith, cut.count));
        few = omega (arith, cut.few, cut.behind);
        behind = omega arith;
        upto = omega arith;
        ahead = turns-again (cut_turn threshold estimates) (found - 1) j cut.ahead h (sym (turn_is h true e));
        holds = written (j + 1) edge (omega (arith, cut.behind)) (omega arith) (a ∙ ap (λ (x : Float). put_segment (grouped start x (between rows.keys from (j + 1)) (between rows.confidences from (j + 1))) n now) b);
      })
    where
      edge : Float
      edge = border_of (estimate_in rows j) (estimate_in rows (j + 1))

  pub cut-end : {after : SegmentRows} (duration : Float) → found - 1 ≤ j → after ≡ put_segment (grouped start duration (between rows.keys from found) (between rows.confidences from found)) n now
      → filled_rows (n + 1) after ≡ standing (groups_of threshold duration estimates) before
  cut-end {after} duration h a =
      let long : length estimates ≡ found = length-list (estimate_in rows) found in
      let last = cut.done ++ (group_from estimates from found start duration ∷ []) in
      let here = holds-all last before after (written found duration (omega (arith, cut.behind, cut.upto)) (omega arith) a) in
      let all : last ≡ groups_of threshold duration estimates = ap (λ (k : ℕ). cut.done ++ (group_from estimates from k start duration ∷ [])) (sym long) ∙ ap (closed estimates duration) (turns-end (cut_turn threshold estimates) (found - 1) j cut.ahead h ∙ ap (λ (k : ℕ). turns (cut_turn threshold estimates) (k - 1) 0 (cutting [] 0 plus_zero)) (sym long)) ∙ sym (groups-loop threshold estimates duration) in
      let many : n + 1 ≡ length last = simp length-append (omega (arith, cut.count)) in
      ap (filled_rows (n + 1)) here ∙ ap (λ (k : ℕ). filled_rows k (holding_segments last before)) many ∙ ap (λ (l : List Segment). standing l before) all
