-- Laws of the loop that shortens, a law for each way out of a turn: what shortening makes of the records that a turn leaves, it makes of those that the turn found.
use mathlib.Core.Path.{◌≡◌, refl, sym, ap, ap₂, ◌∙◌}
use mathlib.Core.Bool.{not}
use mathlib.Core.List.{List, ◌∷◌, ◌++◌, append_assoc, append-nil}
use Prim.Native.Nat.{ℕ, suc, ◌+◌, ◌-◌, ◌^◌, ◌<◌, ◌≤◌}
use native.Mathlib.Omega.{arith}
use lib.Dec.{T}
use lib.ListN.{length, take, drop, replicate, take-append-drop}
use lib.Seq.{length-take-le, take-append_seam, drop-append_seam}
use lib.Ieee.{Float}
use Rattle.timeline.specs.Segments.{emptied}
use Rattle.timeline.specs.Counts.{total_windows}
use Rattle.timeline.proofs.Counts.{two-within}
use Rattle.timeline.specs.declared.segment.Segment.{Segment}
use Rattle.shortening.specs.Shorten.{first_short, keeper, join_at, join_short, unsettled, shortened_of, left_in}
use Rattle.shortening.proofs.Settles.{one_more, first_short-within, keeper-within, join_at-length, join_short-length, shortened-join, to-join, few-settled, long-settled, shortened-few, left-long, stays}
use Rattle.shortening.proofs.Counts.{counts-stay}
use Rattle.records.specs.Records.{Left, left, shortened_in}
use Rattle.records.specs.inside.Steps.{JoinableAt, joined_records}
use Rattle.records.proofs.Gap.{records-join}
use Rattle.records.proofs.Places.{among}

-- these segments shortened in front of others
abbrev before : Float → List Segment → List Segment → Left
before least segments rest = left (length (shortened_of least segments)) (left_in least segments ++ rest)

-- a join, and the emptied record behind it
module _ (least : Float) (segments rest : List Segment) where
  join-before : T (unsettled least segments) → before least (join_short least segments) (emptied ∷ rest) ≡ before least segments rest
  unfolding left_in shortened_of
  join-before t =
      let fewer = join_short least segments in
      let one_less = join_short-length least segments t in
      let few = shortened-few least fewer in
      let same = shortened-join least segments t in
      let more : suc (length fewer - length (shortened_of least fewer)) ≡ length segments - length (shortened_of least fewer) = omega (arith, one_less, few) in
      ap (left (length (shortened_of least fewer))) (append_assoc (shortened_of least fewer) (replicate (length fewer - length (shortened_of least fewer)) emptied) (emptied ∷ rest)
      ∙ ap (λ (l : List Segment). shortened_of least fewer ++ l) (one_more (length fewer - length (shortened_of least fewer)) emptied rest ∙ ap (λ (k : ℕ). replicate k emptied ++ rest) more)
      ∙ sym (append_assoc (shortened_of least fewer) (replicate (length segments - length (shortened_of least fewer)) emptied) rest))
      ∙ ap (λ (l : List Segment). left (length l) ((l ++ replicate (length segments - length l) emptied) ++ rest)) same

  end_before : T (not (unsettled least segments)) → left (length segments) (segments ++ rest) ≡ before least segments rest
  unfolding left_in shortened_of
  end_before t =
      let none : length segments - length segments ≡ 0 = omega arith in
      let same : segments ≡ shortened_of least segments = sym (stays (length segments) least segments t) in
      ap (λ (l : List Segment). left (length segments) (l ++ rest)) (sym (append-nil segments) ∙ ap (λ (k : ℕ). segments ++ replicate k emptied) (sym none))
      ∙ ap (λ (l : List Segment). left (length l) ((l ++ replicate (length segments - length l) emptied) ++ rest)) same

-- the first records in front of the others
shortened-is : (least : Float) (n : ℕ) (l : List Segment) → n ≤ length l → shortened_in least n l ≡ before least (take n l) (drop n l)
unfolding shortened_in
shortened-is least n l h =
    ap (λ (k : ℕ). left (length (shortened_of least (take n l))) (left_in least (take n l) ++ drop k l)) (left-long least (take n l) ∙ length-take-le n l h)

-- The loop has come to n segments: what shortening makes of them it makes of the first ones, and they rest on as many windows.
pub record Shortening (least : Float) (count : ℕ) (first : List Segment) (n : ℕ) (now : List Segment) : Type 0 where
  pub few : n ≤ count
  pub long : length now ≡ length first
  pub ahead : shortened_in least n now ≡ shortened_in least count first
  pub total : total_windows (take n now) ≡ total_windows (take count first)

pub shortening-start : (least : Float) (count : ℕ) (first : List Segment) → Shortening least count first count first
shortening-start least count first = record { few = omega arith; long = refl; ahead = refl; total = refl }

module _ {least : Float} {count : ℕ} {first : List Segment} {n : ℕ} {now : List Segment} (s : Shortening least count first n now) (room : count ≤ length first) where
  abbrev at : List Segment
  at = take n now

  pub now-room : n ≤ length now
  now-room = omega (arith, room, s.few, s.long)

  now-many : length at ≡ n
  now-many = length-take-le n now now-room

  pub short-within : {i : ℕ} → i ≡ first_short least at → (i ≡ n → ⊥) → i < n
  short-within e inside =
      let upto = first_short-within least at in
      omega (arith, e, inside, now-many, upto)

  pub keeper-there : {i p : ℕ} → 1 < n → i < n → p ≡ keeper at i → p + 1 < n
  keeper-there {i} several h e =
      let there = keeper-within at i (rw now-many several) (rw now-many h) in
      omega (arith, e, now-many, there)

  module _ (p : ℕ) (there : p + 1 < n) where
    -- the counts of the two that join fit together where those of all first ones do
    pub both-fit : total_windows (take count first) < 2 ^ 32 → JoinableAt p now
    both-fit fits =
        let two = two-within at p (p + 1) (omega arith) (omega (arith, now-many)) in
        let earlier = ap (λ (r : Segment). r.windows) (among n p now (omega arith) now-room) in
        let later = ap (λ (r : Segment). r.windows) (among n (p + 1) now there now-room) in
        omega (arith, two, earlier, later, s.total, fits)

    abbrev after : List Segment
    after = joined_records p n now

    one_fewer : n - 1 ≡ length (join_at p at)
    one_fewer =
        let one_less = join_at-length p at (omega (arith, now-many)) in
        omega (arith, one_less, now-many)

    -- a join leaves the joined ones, and an emptied record behind them
    front-is : take (n - 1) after ≡ join_at p at
    front-is = ap₂ take one_fewer (records-join p n now there now-room) ∙ take-append_seam (join_at p at) _

    rest-is : drop (n - 1) after ≡ emptied ∷ drop n now
    rest-is = ap₂ drop one_fewer (records-join p n now there now-room) ∙ drop-append_seam (join_at p at) _

    join_is : p ≡ keeper at (first_short least at) → T (unsettled least at) → length after ≡ length now → shortened_in least (n - 1) after ≡ shortened_in least n now
    unfolding join_short
    join_is e t long =
        shortened-is least (n - 1) after (omega (arith, long, now-room))
        ∙ ap₂ (before least) front-is rest-is
        ∙ ap (λ (q : ℕ). before least (join_at q at) (emptied ∷ drop n now)) e
        ∙ join-before least at (drop n now) t
        ∙ sym (shortened-is least n now now-room)

    total-is : total_windows (take (n - 1) after) ≡ total_windows at
    total-is = ap total_windows front-is ∙ (counts-stay at).joined p (rw now-many there)

  pub shortening-more : {i p : ℕ} → 1 < n → i ≡ first_short least at → (i ≡ n → ⊥) → p ≡ keeper at i → length (joined_records p n now) ≡ length now → Shortening least count first (n - 1) (joined_records p n now)
  shortening-more {i} {p} several e inside k long =
      let i-there = short-within e inside in
      let p-there = keeper-there several i-there k in
      let place : p ≡ keeper at (first_short least at) = k ∙ ap (keeper at) e in
      record {
        few = omega (arith, s.few);
        long = long ∙ s.long;
        ahead = join_is p p-there place (to-join least at (rw now-many several) (omega (arith, now-many, e, i-there))) long ∙ s.ahead;
        total = total-is p p-there ∙ s.total;
      }

  -- ---- the end
  end-at : T (not (unsettled least at)) → left n now ≡ shortened_in least count first
  end-at t =
      ap (λ (k : ℕ). left k now) (sym now-many)
      ∙ ap (left (length at)) (sym (take-append-drop n now))
      ∙ end_before least at (drop n now) t
      ∙ sym (shortened-is least n now now-room)
      ∙ s.ahead

  pub shortening-few : n ≤ 1 → left n now ≡ shortened_in least count first
  shortening-few h = end-at (few-settled least at (omega (arith, now-many)))

  pub shortening-done : {i : ℕ} → i ≡ first_short least at → i ≡ n → left n now ≡ shortened_in least count first
  shortening-done e all = end-at (long-settled least at (omega (arith, now-many, e)))
