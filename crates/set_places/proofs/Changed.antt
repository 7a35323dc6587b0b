-- A place changed: it has its new content, and every other one is as it was.
use mathlib.Core.Path.{◌≡◌, sym, ap, ◌∙◌}
use mathlib.Core.List.{List, ◌++◌}
use mathlib.Core.Logic.{inl, inr}
use Prim.Native.Nat.{ℕ, ◌+◌, ◌-◌, ◌*◌, ◌<◌, ◌≤◌}
use native.Mathlib.Omega.{arith}
use lib.ListN.{length, take, drop, length-append, length-drop, take-append-drop}
use lib.Seq.{length-take-le, take_at, drop_at, take-append-le, drop-append-le, drop-append-add}
use Rattle.laws.proofs.Cases.{lt-or-ge}
use Rattle.set_places.specs.Places.{places, place_size, set_size, place_at, placed}

pub length-place : (set : List ℕ) (i : ℕ) → length set ≡ set_size → i < places → length (place_at set i) ≡ place_size
unfolding place_at
length-place set i whole inside = length-take-le place_size (drop (i * place_size) set) (rw (length-drop (i * place_size) set) (omega (arith, whole, inside)))

-- a part of the set that is lent as a place
pub part-place : (set : List ℕ) (i : ℕ) → take ((i + 1) * place_size - i * place_size) (drop (i * place_size) set) ≡ place_at set i
unfolding place_at
part-place set i = let size : (i + 1) * place_size - i * place_size ≡ place_size = omega arith in ap (λ (n : ℕ). take n (drop (i * place_size) set)) size

-- a place that ends before what is put behind
place-below : (front behind : List ℕ) (j : ℕ) → j * place_size + place_size ≤ length front → place_at (front ++ behind) j ≡ place_at front j
unfolding place_at
place-below front behind j h =
    let room : place_size ≤ length (drop (j * place_size) front) = rw (length-drop (j * place_size) front) (omega (arith, h)) in
    ap (take place_size) (drop-append-le (j * place_size) front behind (omega (arith, h))) ∙ take-append-le place_size (drop (j * place_size) front) behind room

-- a place that begins behind a front and a content
place-above : (front content behind : List ℕ) (j : ℕ) → length content ≡ place_size → length front + place_size ≤ j * place_size → place_at (front ++ (content ++ behind)) j ≡ take place_size (drop (j * place_size - length front - place_size) behind)
unfolding place_at
place-above front content behind j size h =
    let left = j * place_size - length front - place_size in
    let start : j * place_size ≡ length front + (length content + left) = omega (arith, h, size) in
    ap (take place_size)
    (ap (λ (n : ℕ). drop n (front ++ (content ++ behind))) start
    ∙ drop-append-add front (content ++ behind) (length content + left)
    ∙ drop-append-add content behind left)

module _ (set : List ℕ) (i : ℕ) (whole : length set ≡ set_size) (inside : i < places) where
  -- what stands before the place, and behind it
  abbrev front : List ℕ
  front = take (i * place_size) set

  abbrev behind : List ℕ
  behind = drop place_size (drop (i * place_size) set)

  front_long : length front ≡ i * place_size
  front_long = length-take-le (i * place_size) set (omega (arith, whole, inside))

  -- a set with its own content
  own : set ≡ front ++ (place_at set i ++ behind)
  unfolding place_at
  own = sym (ap (λ (xs : List ℕ). front ++ xs) (take-append-drop place_size (drop (i * place_size) set)) ∙ take-append-drop (i * place_size) set)

  module _ (content : List ℕ) (size : length content ≡ place_size) where
    pub length-placed : length (placed i content set) ≡ set_size
    unfolding placed
    length-placed =
        let rest : length behind ≡ length set - i * place_size - place_size = length-drop place_size (drop (i * place_size) set) ∙ ap (λ (n : ℕ). n - place_size) (length-drop (i * place_size) set) in
        let outer = length-append front (content ++ behind) in
        let inner = length-append content behind in
        omega (arith, outer, inner, rest, front_long, size, whole, inside)

    pub place_same : place_at (placed i content set) i ≡ content
    unfolding place_at placed
    place_same = ap (take place_size) (drop_at front (content ++ behind) (i * place_size) front_long) ∙ take_at content behind place_size size

    pub place_other : (j : ℕ) → (j ≡ i → ⊥) → place_at (placed i content set) j ≡ place_at set j
    unfolding placed
    place_other j apart =
        elim (lt-or-ge j i) [
          | inl low ↦
              let ends : j * place_size + place_size ≤ length front = omega (arith, front_long, low) in
              place-below front (content ++ behind) j ends ∙ sym (ap (λ (xs : List ℕ). place_at xs j) own ∙ place-below front (place_at set i ++ behind) j ends)
          | inr high ↦
              let starts : length front + place_size ≤ j * place_size = above j apart high in
              place-above front content behind j size starts
              ∙ sym (ap (λ (xs : List ℕ). place_at xs j) own ∙ place-above front (place_at set i) behind j (length-place set i whole inside) starts)
        ]
      where
        above : (j : ℕ) → (j ≡ i → ⊥) → i ≤ j → length front + place_size ≤ j * place_size
        above j apart high = elim (lt-or-ge i j) [ inl l ↦ omega (arith, front_long, l) | inr g ↦ absurd (apart (omega (arith, high, g))) ]
