-- Laws of a slice that is written from the front.
use mathlib.Core.Path.{◌≡◌, refl, sym, ap, ◌∙◌}
use mathlib.Core.List.{List, [], ◌∷◌, ◌++◌, map, append_assoc, append-nil, map-append}
use Prim.Native.Nat.{ℕ, zero, suc, ◌+◌, ◌-◌, ◌<◌, ◌≤◌, min}
use native.Mathlib.Numerals.{add-one}
use native.Mathlib.Omega.{arith}
use lib.ListN.{length, take, drop, set, get_or, length-append, length-set, length-drop, replicate, length-replicate, get_or-replicate, get_or-append}
use mathlib.Core.Logic.{inl, inr}
use mathlib.Core.Bool.{Bool, true, false}
use lib.Dec.{eqb}
use borrow.Author.Tests.{eqb-true, eqb-false}
use native.Mathlib.Nat.{not-suc-le-zero, eq-or-lt_of_le, le_of_suc-le-suc, le_trans, min-zero, min-eq_left, min-eq_right}
use lib.Seq.{take-nil, take_all, take-append-le, drop-cons, set-append_seam, drop-append_seam, get_or-append-add, get_or-append_seam, get_or-drop, get_or-set_same, get_or-set_other, set-get_or, ext_get_or, drop-length}
use Rattle.laws.specs.Front.{front, list}
use Rattle.laws.proofs.Cases.{lt-or-ge}

module _ {A : Type 0} (xs m : List A) where
  pub length_front : length xs ≤ length m → length (front xs m) ≡ length m
  length_front h = simp (length-append, length-drop) (omega arith)

  -- one more
  pub front-more : (a : A) → length xs < length m → set (front xs m) (length xs) a ≡ front (xs ++ (a ∷ [])) m
  front-more a h =
      rw (drop-cons m (length xs) a, set-append_seam, length-append, append_assoc, add-one)

pub length-list : {A : Type 0} (f : ℕ → A) (n : ℕ) → length (list f n) ≡ n
unfolding list
length-list f zero = refl
length-list f (suc n) = simp (length-append, length-list f n) (omega arith)

pub list-more : {A : Type 0} (f : ℕ → A) (n : ℕ) → list f (n + 1) ≡ list f n ++ (f n ∷ [])
unfolding list
list-more f n = rw (add-one, list)

-- A loop that writes f i at i of m₀ has the invariant `Filled f m₀ m i`: `filled-start` where it begins, and after a turn `filled_more`.
pub record Filled {A : Type 0} (f : ℕ → A) (m₀ m : List A) (i : ℕ) : Type 0 where
  pub here : m ≡ front (list f i) m₀
  pub long : length m ≡ length m₀

pub filled-start : {A : Type 0} (f : ℕ → A) (m : List A) → Filled f m m 0
unfolding list
filled-start f m = record { here = refl; long = refl }

pub filled_more : {A : Type 0} (f : ℕ → A) (m₀ m : List A) (i : ℕ) → Filled f m₀ m i → i < length m₀ → Filled f m₀ (set m i (f i)) (i + 1)
filled_more f m₀ m i e h =
    let k : length (list f i) < length m₀ = rw (length-list f i) h in
    record {
      here = ap (λ (l : List _). set l i (f i)) e.here ∙ ap (λ (j : ℕ). set (front (list f i) m₀) j (f i)) (sym (length-list f i)) ∙ front-more (list f i) m₀ (f i) k ∙ ap (λ (l : List _). front l m₀) (sym (list-more f i));
      long = length-set m i (f i) ∙ e.long;
    }

-- what is not written yet still stands there, as an element that a turn replaces by what it makes of it
pub filled-rest : {A : Type 0} (f : ℕ → A) (m₀ m : List A) (i j : ℕ) (d : A) → Filled f m₀ m i → i ≤ j → get_or m j d ≡ get_or m₀ j d
filled-rest f m₀ m i j d e h =
    let k : ℕ = j - i in
    let at : j ≡ i + k = omega arith in
    let long : length (list f i) ≡ i = length-list f i in
    ap (λ (l : List _). get_or l j d) e.here
    ∙ ap (λ (x : ℕ). get_or (front (list f i) m₀) x d) (at ∙ ap (λ (x : ℕ). x + k) (sym long))
    ∙ get_or-append-add (list f i) (drop (length (list f i)) m₀) k d
    ∙ get_or-drop (length (list f i)) m₀ k d
    ∙ ap (λ (x : ℕ). get_or m₀ x d) (ap (λ (x : ℕ). x + k) long ∙ sym at)

-- ---- lists by their entries
pub list_same : {A : Type 0} (f g : ℕ → A) (n : ℕ) → ((k : ℕ) → k < n → f k ≡ g k) → list f n ≡ list g n
unfolding list
list_same f g zero e = refl
list_same f g (suc n) e = rw (list_same f g n (λ (k : ℕ) (h : k < n). e k (omega arith)), e n (omega arith))

pub get_or-list : {A : Type 0} (f : ℕ → A) (n k : ℕ) (d : A) → k < n → get_or (list f n) k d ≡ f k
unfolding list
get_or-list f zero k d h = absurd (not-suc-le-zero h)
get_or-list f (suc n) k d h =
    elim (eq-or-lt_of_le (le_of_suc-le-suc h)) [
      | inl e ↦ ap (λ (j : ℕ). get_or (list f n ++ (f n ∷ [])) j d) (e ∙ sym (length-list f n)) ∙ get_or-append_seam (list f n) (f n) [] d ∙ ap f (sym e)
      | inr l ↦ get_or-append (list f n) (f n ∷ []) d k (rw length-list l) ∙ get_or-list f n k d l
    ]

-- the first of them
pub take-list : {A : Type 0} (f : ℕ → A) (k n : ℕ) → take k (list f n) ≡ list f (min k n)
unfolding list
take-list f k zero = take-nil k ∙ ap (list f) (sym (min-zero k))
take-list f k (suc n) = elim (lt-or-ge n k) [
  | inl all ↦
      take_all k (list f n ++ (f n ∷ [])) (rw (length-append (list f n) (f n ∷ []), length-list f n) (omega (arith, all))) ∙ ap (list f) (sym (min-eq_right all))
  | inr few ↦
      take-append-le k (list f n) (f n ∷ []) (rw (length-list f n) few)
      ∙ take-list f k n
      ∙ ap (list f) (min-eq_left few ∙ sym (min-eq_left (le_trans few (omega arith))))
]

-- and back: equal lists are equal at each entry
pub list-entry : {A : Type 0} (f g : ℕ → A) (n : ℕ) (d : A) → list f n ≡ list g n → (k : ℕ) → k < n → f k ≡ g k
list-entry {A} f g n d e k h = sym (get_or-list f n k d h) ∙ ap (λ (l : List A). get_or l k d) e ∙ get_or-list g n k d h

pub replicate-list : {A : Type 0} (n : ℕ) (a : A) → replicate n a ≡ list (λ (k : ℕ). a) n
replicate-list n a =
    ext_get_or a (replicate n a) _ (length-replicate n a ∙ sym (length-list (λ (k : ℕ). a) n))
    (λ (k : ℕ) (h : k < length (replicate n a)). let l : k < n = rw (length-replicate n a) at h in get_or-replicate n k a a l ∙ sym (get_or-list (λ (j : ℕ). a) n k a l))

-- one entry replaced
pub list_set : {A : Type 0} (f g : ℕ → A) (n k : ℕ) (v : A) → k < n → v ≡ g k → ((j : ℕ) → (j ≡ k → ⊥) → f j ≡ g j) → set (list f n) k v ≡ list g n
list_set f g n k v h e others =
    ext_get_or v _ (list g n) (length-set (list f n) k v ∙ length-list f n ∙ sym (length-list g n))
    (λ (j : ℕ) (l : j < length (set (list f n) k v)). either j (rw (length-set (list f n) k v, length-list f n) at l) (eqb j k) refl)
  where
    either : (j : ℕ) → j < n → (b : Bool) → eqb j k ≡ b → get_or (set (list f n) k v) j v ≡ get_or (list g n) j v
    either j l true d = let same = eqb-true j k d in
        ap (λ (i : ℕ). get_or (set (list f n) k v) i v) same ∙ get_or-set_same (list f n) k v v (rw length-list h) ∙ e ∙ ap g (sym same) ∙ sym (get_or-list g n j v l)
    either j l false d = let apart = eqb-false j k d in
        get_or-set_other (list f n) k j v v apart ∙ get_or-list f n j v l ∙ others j apart ∙ sym (get_or-list g n j v l)

pub map-list : {A B : Type 0} (f : A → B) (g : ℕ → A) (n : ℕ) → map f (list g n) ≡ list (λ (i : ℕ). f (g i)) n
unfolding list
map-list f g zero = refl
map-list f g (suc n) = map-append f (list g n) (g n ∷ []) ∙ ap (λ (l : List _). l ++ (f (g n) ∷ [])) (map-list f g n)

-- a second list as long as the first takes its places
pub front-front : {A : Type 0} (xs ys m : List A) → length xs ≡ length ys → front xs (front ys m) ≡ front xs m
front-front xs ys m h = rw (h, drop-append_seam)

pub get_d_front : {A : Type 0} (f : ℕ → A) (n : ℕ) (m : List A) (k : ℕ) (d : A) → k < n → get_or (front (list f n) m) k d ≡ f k
get_d_front f n m k d h = get_or-append (list f n) (drop (length (list f n)) m) d k (rw length-list h) ∙ get_or-list f n k d h

-- a slice's own entries change nothing
pub front-own : {A : Type 0} (m : List A) (n : ℕ) (d : A) → n ≤ length m → m ≡ front (list (λ (k : ℕ). get_or m k d) n) m
front-own m zero d h = (filled-start (λ (k : ℕ). get_or m k d) m).here
front-own m (suc n) d h =
    let own : Filled (λ (k : ℕ). get_or m k d) m m n = record { here = front-own m n d (omega arith); long = refl } in
    sym (set-get_or m n d) ∙ (filled_more (λ (k : ℕ). get_or m k d) m m n own (omega arith)).here ∙ ap (λ (k : ℕ). front (list (λ (j : ℕ). get_or m j d) k) m) (add-one n)

-- a list by its own entries
pub list-own : {A : Type 0} (xs : List A) (d : A) → list (λ (k : ℕ). get_or xs k d) (length xs) ≡ xs
list-own xs d =
    let same = length-list (λ (k : ℕ). get_or xs k d) (length xs) in
    ext_get_or d _ xs same (λ (k : ℕ) (h : k < length (list (λ (j : ℕ). get_or xs j d) (length xs))). get_or-list (λ (j : ℕ). get_or xs j d) (length xs) k d (rw same at h))

-- a list that takes every place
pub front-all : {A : Type 0} (xs m : List A) → length xs ≡ length m → front xs m ≡ xs
front-all xs m h = rw (h, drop-length m, append-nil xs)

-- a slice that was written as far as n
pub filled-to : {A : Type 0} (f : ℕ → A) (m₀ m : List A) (i n : ℕ) → Filled f m₀ m i → i ≡ n → m ≡ front (list f n) m₀
filled-to f m₀ m i n e h = e.here ∙ ap (λ (k : ℕ). front (list f k) m₀) h

-- a slice that was copied over, entry by entry
pub filled-own : {A : Type 0} (xs m₀ m : List A) (d : A) (n : ℕ) → Filled (λ (k : ℕ). get_or xs k d) m₀ m n → n ≡ length xs → m ≡ front xs m₀
filled-own xs m₀ m d n e h = filled-to _ m₀ m n (length xs) e h ∙ ap (λ (l : List _). front l m₀) (list-own xs d)

-- an array that was written to its end
pub filled-whole : {A : Type 0} (f : ℕ → A) (m₀ m : List A) (n count : ℕ) → Filled f m₀ m n → n ≡ count → count ≡ length m₀ → m ≡ list f count
filled-whole f m₀ m n count e h l =
    filled-to f m₀ m n count e h ∙ front-all (list f count) m₀ (length-list f count ∙ l)
