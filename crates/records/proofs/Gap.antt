-- A gap in a list closes entry by entry: closing what a turn leaves, from the next place on, is closing what it found. So nothing is said of how far the gap has come.
use mathlib.Core.Path.{◌≡◌, refl, sym, ap, ◌∙◌}
use mathlib.Core.List.{List, [], ◌∷◌, ◌++◌}
use Prim.Native.Nat.{ℕ, zero, suc, ◌+◌, ◌-◌, ◌<◌, ◌≤◌}
use native.Mathlib.Nat.{not-suc-le-zero, le_of_suc-le-suc, lt_irrefl}
use native.Mathlib.Numerals.{add-one}
use native.Mathlib.Omega.{arith}
use lib.ListN.{length, get_or, set, length-set, take, drop}
use Rattle.timeline.specs.Segments.{emptied, joined, segment_at}
use Rattle.timeline.specs.declared.segment.Segment.{Segment}
use Rattle.shortening.specs.Shorten.{join_at}
use Rattle.records.specs.inside.Steps.{moved_down, copied_down, joined_records}
use Rattle.shortening.proofs.Settles.{join_at-first, join_at-more}

module _ {A : Type 0} where
  -- the definition, entry by entry
  moved-first : (count : ℕ) (x y : A) (xs : List A) → moved_down 0 (suc count) x (y ∷ xs) ≡ take count xs ++ (x ∷ drop count xs)
  unfolding moved_down
  moved-first count x y xs = refl

  moved-next : (p count : ℕ) (x y : A) (xs : List A) → moved_down (suc p) (suc count) x (y ∷ xs) ≡ y ∷ moved_down p count x xs
  unfolding moved_down
  moved-next p count x y xs =
      let next : suc p + 1 ≡ suc (p + 1) = omega arith in
      rw next

  turn-closes : (j count : ℕ) (x d : A) (l : List A) → suc j < count → count ≤ length l → moved_down (suc j) count x (set l j (get_or l (suc j) d)) ≡ moved_down j count x l
  turn-closes j zero x d l h k = absurd (not-suc-le-zero h)
  turn-closes j (suc count) x d [] h k = absurd (not-suc-le-zero k)
  turn-closes zero (suc zero) x d (y ∷ l) h k = absurd (lt_irrefl 1 h)
  turn-closes zero (suc (suc count)) x d (y ∷ []) h k = absurd (not-suc-le-zero (le_of_suc-le-suc k))
  turn-closes zero (suc (suc count)) x d (y ∷ z ∷ l) h k =
      moved-next 0 (suc count) x z (z ∷ l) ∙ ap (λ (r : List A). z ∷ r) (moved-first count x z l) ∙ sym (moved-first (suc count) x y (z ∷ l))
  turn-closes (suc j) (suc count) x d (y ∷ l) h k =
      moved-next (suc j) count x y _ ∙ ap (λ (r : List A). y ∷ r) (turn-closes j count x d l (le_of_suc-le-suc h) (le_of_suc-le-suc k)) ∙ sym (moved-next j count x y l)

  last-closes : (j : ℕ) (x : A) (l : List A) → j < length l → set l j x ≡ moved_down j (suc j) x l
  last-closes j x [] h = absurd (not-suc-le-zero h)
  last-closes zero x (y ∷ l) h = sym (moved-first 0 x y l)
  last-closes (suc j) x (y ∷ l) h = ap (λ (r : List A). y ∷ r) (last-closes j x l (le_of_suc-le-suc h)) ∙ sym (moved-next j (suc j) x y l)

-- The records now, with the gap at j: closed, they are what closing the gap at p of those before gives.
pub record Closing (p count : ℕ) (before : List Segment) (j : ℕ) (now : List Segment) : Type 0 where
  pub from : p ≤ j
  pub upto : j < count
  pub long : length now ≡ length before
  pub ahead : moved_down j count emptied now ≡ moved_down p count emptied before

pub closing-start : {p count : ℕ} (before : List Segment) → p < count → Closing p count before p before
closing-start before h = record { from = omega arith; upto = h; long = refl; ahead = refl }

module _ {p count : ℕ} {before : List Segment} {j : ℕ} {now : List Segment} (c : Closing p count before j now) (room : count ≤ length before) where
  pub closing-more : j < count - 1 → Closing p count before (j + 1) (copied_down j now)
  closing-more h =
      let next : j + 1 ≡ suc j = add-one j in
      record {
        from = omega (arith, c.from);
        upto = omega arith;
        long = length-set now j (segment_at now (j + 1)) ∙ c.long;
        ahead = ap (λ (k : ℕ). moved_down k count emptied (set now j (segment_at now k))) next ∙ turn-closes j count emptied emptied now (omega arith) (omega (arith, room, c.long)) ∙ c.ahead;
      }

  pub closing_end : count - 1 ≤ j → set now (count - 1) emptied ≡ moved_down p count emptied before
  closing_end h =
      let last : count - 1 ≡ j = omega (arith, c.upto) in
      let all : suc j ≡ count = omega (arith, c.upto) in
      ap (λ (k : ℕ). set now k emptied) last ∙ last-closes j emptied now (omega (arith, room, c.long, c.upto)) ∙ ap (λ (k : ℕ). moved_down j k emptied now) all ∙ c.ahead

-- two that join, as the definition of shortening joins them
joins : (p count : ℕ) (l : List Segment) → suc p < count → count ≤ length l → moved_down (suc p) count emptied (set l p (joined (segment_at l p) (segment_at l (suc p)))) ≡ join_at p (take count l) ++ (emptied ∷ drop count l)
joins p zero l h k = absurd (not-suc-le-zero h)
joins p (suc count) [] h k = absurd (not-suc-le-zero k)
joins zero (suc zero) (s ∷ l) h k = absurd (lt_irrefl 1 h)
joins zero (suc (suc count)) (s ∷ []) h k = absurd (not-suc-le-zero (le_of_suc-le-suc k))
joins zero (suc (suc count)) (s ∷ t ∷ l) h k =
    moved-next 0 (suc count) emptied (joined s t) (t ∷ l)
    ∙ ap (λ (r : List Segment). joined s t ∷ r) (moved-first count emptied t l)
    ∙ ap (λ (r : List Segment). r ++ (emptied ∷ drop count l)) (sym (join_at-first s t (take count l)))
joins (suc p) (suc count) (s ∷ l) h k =
    moved-next (suc p) count emptied s _
    ∙ ap (λ (r : List Segment). s ∷ r) (joins p count l (le_of_suc-le-suc h) (le_of_suc-le-suc k))
    ∙ ap (λ (r : List Segment). r ++ (emptied ∷ drop count l)) (sym (join_at-more p s (take count l)))

pub records-join : (p count : ℕ) (l : List Segment) → p + 1 < count → count ≤ length l → joined_records p count l ≡ join_at p (take count l) ++ (emptied ∷ drop count l)
records-join p count l h k =
    ap (λ (q : ℕ). moved_down q count emptied (set l p (joined (segment_at l p) (segment_at l q)))) (add-one p) ∙ joins p count l (omega arith) k
