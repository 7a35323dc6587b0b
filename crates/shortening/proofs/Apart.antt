-- A column with a gap: the segments that are kept stand in its first places, and from `next` on it is as it was. An entry put in place p, and all after it
-- given up as far as the gap, is one law, whether a segment is read or two join.
use mathlib.Core.Path.{◌≡◌, refl, sym, ap, ◌∙◌}
use mathlib.Core.List.{List, [], ◌∷◌, ◌++◌, map, map-append, append_assoc}
use Prim.Native.Nat.{ℕ, zero, suc, ◌+◌, ◌-◌, ◌<◌, ◌≤◌}
use native.Mathlib.Nat.{not-suc-le-zero, le_of_suc-le-suc}
use native.Mathlib.Omega.{arith}
use lib.ListN.{length, get_or, set, take, drop, replicate, length-append, length-replicate, length-map, length-set}
use lib.Seq.{length-take-le, take_at, take-take, take-suc-set, drop-set-lt, drop-drop, get_or-take, get_or-drop}
use Rattle.laws.specs.Front.{front, list}
use Rattle.laws.proofs.Front.{list_same, map-list, front-own}
use Rattle.timeline.specs.Segments.{emptied, segment_at}
use Rattle.timeline.specs.declared.segment.Segment.{Segment}
use Rattle.shortening.specs.inside.Gap.{emptied_column}

pub record Apart {A : Type 0} (f : Segment → A) (kept : List Segment) (next : ℕ) (m₀ m : List A) : Type 0 where
  pub first : take (length kept) m ≡ map f kept
  pub rest : drop next m ≡ drop next m₀
  pub long : length m ≡ length m₀

module _ {A : Type 0} (f : Segment → A) where
  map_at : (xs : List Segment) (i : ℕ) (d : A) → i < length xs → get_or (map f xs) i d ≡ f (segment_at xs i)
  map_at [] i d h = absurd (not-suc-le-zero h)
  map_at (x ∷ xs) zero d h = refl
  map_at (x ∷ xs) (suc i) d h = map_at xs i d (le_of_suc-le-suc h)

  map-take : (p : ℕ) (xs : List Segment) → map f (take p xs) ≡ take p (map f xs)
  map-take zero xs = refl
  map-take (suc p) [] = refl
  map-take (suc p) (x ∷ xs) = ap (λ (l : List A). f x ∷ l) (map-take p xs)

  map-replicate : (k : ℕ) (s : Segment) → replicate k (f s) ≡ map f (replicate k s)
  map-replicate zero s = refl
  map-replicate (suc k) s = ap (λ (l : List A). f s ∷ l) (map-replicate k s)

  -- a column's own entries change nothing, so the first ones stand before a gap that is not there yet
  module _ (g : ℕ → Segment) (n : ℕ) (m : List A) (d : A) (h : n ≤ length m) (same : (k : ℕ) → k < n → f (g k) ≡ get_or m k d) where
    pub apart-own : front (map f (list g n)) m ≡ m
    apart-own = ap (λ (l : List A). front l m) (map-list f g n ∙ list_same (λ (k : ℕ). f (g k)) (λ (k : ℕ). get_or m k d) n same) ∙ sym (front-own m n d h)

    pub apart-start : Apart f (list g n) n m m
    apart-start =
        record {
          first = ap (take (length (list g n))) (sym apart-own) ∙ take_at (map f (list g n)) (drop (length (map f (list g n))) m) (length (list g n)) (length-map (list g n) f);
          rest = refl;
          long = refl;
        }

  module _ (kept : List Segment) (next : ℕ) {m₀ m : List A} (a : Apart f kept next m₀ m) where
    pub apart-put : (p next' : ℕ) (x : Segment) → p ≤ length kept → p < next' → next ≤ next' → p < length m₀ → Apart f (take p kept ++ (x ∷ [])) next' m₀ (set m p (f x))
    apart-put p next' x h less onward there =
        let long : length (take p kept ++ (x ∷ [])) ≡ suc p = simp (length-append, length-take-le p kept h) (omega arith) in
        let further : next + (next' - next) ≡ next' = omega arith in
        record {
          first = ap (λ (n : ℕ). take n (set m p (f x))) long
              ∙ take-suc-set m p (f x) (rw a.long there)
              ∙ ap (λ (l : List A). l ++ (f x ∷ [])) (sym (take-take p (length kept) m h) ∙ ap (take p) a.first ∙ sym (map-take p kept))
              ∙ sym (map-append f (take p kept) (x ∷ []));
          rest = drop-set-lt next' m p (f x) less
              ∙ ap (λ (n : ℕ). drop n m) (sym further)
              ∙ sym (drop-drop (next' - next) next m)
              ∙ ap (drop (next' - next)) a.rest
              ∙ drop-drop (next' - next) next m₀
              ∙ ap (λ (n : ℕ). drop n m₀) further;
          long = length-set m p (f x) ∙ a.long;
        }

    -- what is read on either side of the gap
    pub apart-kept : (i : ℕ) (d : A) → i < length kept → get_or m i d ≡ f (segment_at kept i)
    apart-kept i d h = sym (get_or-take (length kept) m i d h) ∙ ap (λ (l : List A). get_or l i d) a.first ∙ map_at kept i d h

    pub apart-rest : (i : ℕ) (d : A) → next ≤ i → get_or m i d ≡ get_or m₀ i d
    apart-rest i d h =
        let at : next + (i - next) ≡ i = omega arith in
        ap (λ (n : ℕ). get_or m n d) (sym at)
        ∙ sym (get_or-drop next m (i - next) d)
        ∙ ap (λ (l : List A). get_or l (i - next) d) a.rest
        ∙ get_or-drop next m₀ (i - next) d
        ∙ ap (λ (n : ℕ). get_or m₀ n d) at

    -- all is read, and the gap emptied
    pub apart-end : length kept ≤ next → emptied_column (length kept) next (f emptied) m ≡ front (map f (kept ++ replicate (next - length kept) emptied)) m₀
    apart-end h =
        let more = replicate (next - length kept) emptied in
        let long : length (map f (kept ++ more)) ≡ next = length-map (kept ++ more) f ∙ simp (length-append, length-replicate) (omega arith) in
        ap (λ (l : List A). l ++ (replicate (next - length kept) (f emptied) ++ drop next m)) a.first
        ∙ ap (λ (l : List A). map f kept ++ (replicate (next - length kept) (f emptied) ++ l)) a.rest
        ∙ ap (λ (l : List A). map f kept ++ (l ++ drop next m₀)) (map-replicate (next - length kept) emptied)
        ∙ sym (append_assoc (map f kept) (map f more) (drop next m₀))
        ∙ ap (λ (l : List A). l ++ drop next m₀) (sym (map-append f kept more))
        ∙ ap (λ (n : ℕ). map f (kept ++ more) ++ drop n m₀) (sym long)
