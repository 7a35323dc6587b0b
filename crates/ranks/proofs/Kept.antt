-- Values kept between two bounds: each count among them is that of all values without those below the lower bound, so the key at a rank stays.
use mathlib.Core.Path.{◌≡◌, refl, sym, ap, ◌∙◌, subst}
use mathlib.Core.Logic.{inl, inr}
use mathlib.Core.Bool.{Bool}
use mathlib.Core.List.{List, [], ◌∷◌, ◌++◌}
use Prim.Native.Nat.{ℕ, suc, ◌+◌, ◌-◌, ◌≤◌, ◌<◌}
use native.Mathlib.Omega.{arith}
use lib.Dec.{T}
use lib.ListN.{length, get_or, take, drop, length-append}
use lib.Seq.{length-take-le, take-append-le, drop-append_seam, drop-drop}
use Rattle.std.specs.Prelude.{filter}
use lib.Ieee.{Float, nan, binary32}
use borrow.Author.Tests.{lt-ltb, le-ltb}
use Rattle.laws.specs.Order.{order_key}
use Rattle.laws.proofs.Cases.{lt-or-ge, by-test}
use Rattle.ranks.specs.Sorted.{sorted_of}
use Rattle.ranks.specs.inside.Search.{count_below, key_at_rank, SoughtIn}
use Rattle.ranks.specs.inside.Narrow.{divides, within, Counted, Narrowed}
use Rattle.ranks.proofs.Count.{keys_below, Each, each_none, each_more, below_all, below-mono, key-at, place-least, place-most, not_beyond}
use Rattle.ranks.proofs.Sorted.{below-sorted, length-sorted, ascending-sorted, InSingle}
use Rattle.ranks.proofs.Found.{count-below-is, each_take}
use Rattle.ranks.proofs.Keys.{key-lt}
use Rattle.ranks.proofs.Under.{under-key}

abbrev key_of : Float → ℕ
key_of = order_key binary32

abbrev below : ℕ → List Float → ℕ
below = keys_below (order_key binary32)

-- ---- what holds of the values kept
each-kept : {P : Float → Type 0} (test : Float → Bool) {xs : List Float} → Each P xs → Each P (filter test xs)
each-kept test each_none = each_none
each-kept {P} test (each_more {x = x} p ps) = by-test (λ (l : List Float). Each P l) (test x) (λ _. each_more p (each-kept test ps)) (λ _. each-kept test ps)

pub kept-fewer : (test : Float → Bool) (xs : List Float) → length (filter test xs) ≤ length xs
kept-fewer test [] = omega arith
kept-fewer test (x ∷ xs) = by-test (λ (l : List Float). length l ≤ suc (length xs)) (test x) (λ _. omega (arith, kept-fewer test xs)) (λ _. omega (arith, kept-fewer test xs))

module _ (low high : Float) (l : T (divides low)) (h : T (divides high)) (f : InSingle low) (g : InSingle high) where
  module _ (p : ℕ) (from : key_of low ≤ p) (to : p ≤ key_of high) where
    counts-kept : {xs : List Float} → Each InSingle xs → below p (filter (within low high) xs) + below (key_of low) xs ≡ below p xs
    unfolding keys_below
    counts-kept each_none = refl
    counts-kept (each_more {x = x} {xs = xs} fit fits) =
        let rest = counts-kept fits in
        elim (lt-or-ge (key_of x) (key_of low)) [
          | inl a ↦ rw (under-key low l f x fit, under-key high h g x fit, lt-ltb (key_of x) (key_of low) a, lt-ltb (key_of x) (key_of high) (omega arith), lt-ltb (key_of x) p (omega arith)) (omega arith)
          | inr b ↦ elim (lt-or-ge (key_of x) p) [
            | inl c ↦ rw (under-key low l f x fit, under-key high h g x fit, le-ltb (key_of x) (key_of low) b, lt-ltb (key_of x) (key_of high) (omega arith), lt-ltb (key_of x) p c) (omega arith)
            | inr c ↦ elim (lt-or-ge (key_of x) (key_of high)) [
              | inl d ↦ rw (under-key low l f x fit, under-key high h g x fit, le-ltb (key_of x) (key_of low) b, lt-ltb (key_of x) (key_of high) d, le-ltb (key_of x) p c) (omega arith)
              | inr d ↦ rw (under-key low l f x fit, under-key high h g x fit, le-ltb (key_of x) (key_of low) b, le-ltb (key_of x) (key_of high) d, le-ltb (key_of x) p c) (omega arith)
            ]
          ]
        ]

  -- ---- the key at the rank among the values kept
  module _ {xs : List Float} (fits : Each InSingle xs) (rank : ℕ) (least : below (key_of low) xs ≤ rank) (most : rank < below (key_of high) xs) where
    low_first : key_of low < key_of high
    low_first = elim (lt-or-ge (key_of low) (key_of high)) [
      | inl d ↦ d
      | inr d ↦ let grows = below-mono key_of (key_of high) (key_of low) d xs in omega arith
    ]

    abbrev left : List Float
    left = filter (within low high) xs

    abbrev place : ℕ
    place = rank - below (key_of low) xs

    none_below : below (key_of low) left ≡ 0
    none_below = let e = counts-kept (key_of low) (omega arith) (omega (arith, low_first)) fits in omega arith

    place-under : place < below (key_of high) left
    place-under = let e = counts-kept (key_of high) (omega (arith, low_first)) (omega arith) fits in omega arith

    place_inside : place < length left
    place_inside =
        let grows = below-mono key_of (key_of high) 0x1_0000_0000 (omega (arith, key-lt binary32 high)) left in
        let all = below_all key_of 0x1_0000_0000 (key-lt binary32) left in
        omega (arith, place-under)

    kept-key : key_of (get_or (sorted_of left) place nan) ≡ key_of (get_or (sorted_of xs) rank nan)
    kept-key =
        let sorted = ascending-sorted fits in
        let grows = below-mono key_of (key_of high) 0x1_0000_0000 (omega (arith, key-lt binary32 high)) xs in
        let all = below_all key_of 0x1_0000_0000 (key-lt binary32) xs in
        let inside : rank < length (sorted_of xs) = omega (arith, length-sorted xs) in
        let p = key_of (get_or (sorted_of xs) rank nan) in
        let under : below p xs ≤ rank = subst (λ (m : ℕ). m ≤ rank) (below-sorted key_of p xs) (place-least key_of sorted rank nan inside) in
        let over : rank < below (p + 1) xs = subst (λ (m : ℕ). rank < m) (below-sorted key_of (p + 1) xs) (place-most key_of sorted rank nan inside) in
        let from : key_of low ≤ p = not_beyond key_of xs (key_of low) p rank least over in
        let to : p < key_of high = before-high p under in
        let counted = counts-kept p from (omega arith) fits in
        let counted-more = counts-kept (p + 1) (omega arith) (omega arith) fits in
        sym (key-at key_of (ascending-sorted (each-kept (within low high) fits)) place nan (omega (arith, length-sorted left, place_inside)) p
        (subst (λ (m : ℕ). m ≤ place) (sym (below-sorted key_of p left)) (omega arith))
        (subst (λ (m : ℕ). place < m) (sym (below-sorted key_of (p + 1) left)) (omega arith)))
      where
        before-high : (p : ℕ) → below p xs ≤ rank → p < key_of high
        before-high p under = elim (lt-or-ge p (key_of high)) [
          | inl d ↦ d
          | inr d ↦ let grows = below-mono key_of (key_of high) p d xs in omega arith
        ]

-- ---- the first values of a slice, after those within the bounds moved to the front
module _ (ws moved : List Float) (n rank r : ℕ) (low high : Float) (b u : ℕ) (fit : (i : ℕ) → InSingle (get_or ws i nan)) (room : n ≤ length ws) (counts : Counted (take n ws) low high b u) (least : b ≤ rank) (most : rank < u) (long : length moved ≡ length (take n ws)) (many : r ≡ length (filter (within low high) (take n ws))) (front : take r moved ≡ filter (within low high) (take n ws)) where
  abbrev first : List Float
  first = take n ws

  abbrev all_fit : Each InSingle first
  all_fit = each_take ws n fit

  below-low : b ≡ below (key_of low) first
  below-low = counts.below_is ∙ count-below-is first (key_of low)

  below-high : u ≡ below (key_of high) first
  below-high = counts.upto_is ∙ count-below-is first (key_of high)

  fewer : r ≤ n
  fewer = omega (arith, kept-fewer (within low high) first, length-take-le n ws room)

  abbrev after : List Float
  after = moved ++ drop n ws

  here : take r after ≡ filter (within low high) first
  here = take-append-le r moved (drop n ws) (omega (arith, kept-fewer (within low high) first)) ∙ front

  room-left : r ≤ length after
  room-left = omega (arith, length-append moved (drop n ws), kept-fewer (within low high) first)

  among : (q : ℕ) → count_below (take r after) q ≡ below q (filter (within low high) first)
  among q = count-below-is (take r after) q ∙ ap (below q) here

  abbrev under : below (key_of low) first ≤ rank
  under = omega (arith, below-low)

  abbrev over : rank < below (key_of high) first
  over = omega (arith, below-high)

  pub sought-among : SoughtIn after r (rank - b) (key_of low) (key_of high - key_of low)
  sought-among =
      let lo = counts.low_divides in
      let hi = counts.high_divides in
      let firsts = low_first low high lo hi counts.low_fits counts.high_fits all_fit rank under over in
      let end : key_of low + (key_of high - key_of low) ≡ key_of high = omega arith in
      record {
        inside = omega (arith, place_inside low high lo hi counts.low_fits counts.high_fits all_fit rank under over, below-low);
        room = room-left;
        some = omega arith;
        keys = omega (arith, key-lt binary32 high);
        least = omega (arith, among (key_of low), none_below low high lo hi counts.low_fits counts.high_fits all_fit rank under over);
        most = subst (λ (q : ℕ). rank - b < count_below (take r after) q) (sym end) (omega (arith, among (key_of high), place-under low high lo hi counts.low_fits counts.high_fits all_fit rank under over, below-low));
      }

  pub narrowed-among : Narrowed ws n rank after r (rank - b)
  unfolding key_at_rank
  narrowed-among =
      let lo = counts.low_divides in
      let hi = counts.high_divides in
      record {
        fewer = fewer;
        same_key =
            ap (λ (l : List Float). key_of (get_or (sorted_of l) (rank - b) nan)) here
            ∙ ap (λ (k : ℕ). key_of (get_or (sorted_of (filter (within low high) first)) (rank - k) nan)) below-low
            ∙ kept-key low high lo hi counts.low_fits counts.high_fits all_fit rank under over;
        same_rest =
            let ends : n ≡ length moved = omega (arith, long, length-take-le n ws room) in
            ap (λ (k : ℕ). drop k after) ends ∙ drop-append_seam moved (drop n ws);
      }

-- bounds with a rank between their counts are apart
pub counted-apart : {xs : List Float} {rank : ℕ} {low high : Float} {b u : ℕ} → Counted xs low high b u → b ≤ rank → rank < u → order_key binary32 low < order_key binary32 high
counted-apart {xs} {rank} {low} {high} {b} {u} counts least most = elim (lt-or-ge (key_of low) (key_of high)) [
  | inl d ↦ d
  | inr d ↦ let grows = below-mono key_of (key_of high) (key_of low) d xs in omega (arith, counts.below_is, counts.upto_is, count-below-is xs (key_of low), count-below-is xs (key_of high))
]

-- ---- one narrowing after another
pub narrowed-same : (ws : List Float) (n rank : ℕ) → Narrowed ws n rank ws n rank
narrowed-same ws n rank = record { fewer = omega arith; same_key = refl; same_rest = refl }

pub narrowed-more : {before now after : List Float} {n rank m place k spot : ℕ} → Narrowed before n rank now m place → Narrowed now m place after k spot → Narrowed before n rank after k spot
narrowed-more {before} {now} {after} {n} {rank} {m} {place} {k} {spot} a b =
    let beyond : n ≡ m + (n - m) = omega (arith, a.fewer) in
    record {
      fewer = omega (arith, a.fewer, b.fewer);
      same_key = b.same_key ∙ a.same_key;
      same_rest = ap (λ (i : ℕ). drop i after) beyond ∙ sym (drop-drop (n - m) m after) ∙ ap (drop (n - m)) b.same_rest ∙ drop-drop (n - m) m now ∙ ap (λ (i : ℕ). drop i now) (sym beyond) ∙ a.same_rest;
    }
