-- The count of entries below a bound grows with the bound, and in a list that ascends the entry at place k has the one key with at most k below it and more than k below its successor.
use mathlib.Core.Path.{◌≡◌, refl, ◌∙◌}
use mathlib.Core.Logic.{inl, inr}
use mathlib.Core.Bool.{cond}
use mathlib.Core.List.{List, [], ◌∷◌, ◌++◌}
use Prim.Native.Nat.{ℕ, zero, suc, ◌+◌, ◌≤◌, ◌<◌}
use native.Mathlib.Nat.{le_antisymm, le_of_suc-le-suc, not-suc-le-zero}
use native.Mathlib.Omega.{arith}
use lib.Dec.{ltb}
use lib.ListN.{length, get_or}
use borrow.Author.Tests.{lt-ltb, le-ltb}
use Rattle.laws.proofs.Cases.{lt-or-ge}

-- how many entries have a key below the bound
unfoldable pub keys_below : {A : Type 0} → (A → ℕ) → ℕ → List A → ℕ
keys_below key bound [] = 0
keys_below key bound (x ∷ xs) = cond (ltb (key x) bound) 1 0 + keys_below key bound xs

-- P holds of every entry
pub data Each {A : Type 0} (P : A → Type 0) : List A → Type 0 where
  each_none : Each P []
  each_more : {x : A} {xs : List A} → P x → Each P xs → Each P (x ∷ xs)

pub each_at : {A : Type 0} {P : A → Type 0} {xs : List A} → Each P xs → (k : ℕ) (d : A) → k < length xs → P (get_or xs k d)
each_at each_none k d h = absurd (not-suc-le-zero h)
each_at (each_more p ps) zero d h = p
each_at (each_more p ps) (suc k) d h = each_at ps k d (le_of_suc-le-suc h)

pub each_all : {A : Type 0} {P : A → Type 0} (xs : List A) (d : A) → ((k : ℕ) → P (get_or xs k d)) → Each P xs
each_all [] d h = each_none
each_all (x ∷ xs) d h = each_more (h 0) (each_all xs d (λ (k : ℕ). h (suc k)))

pub each-so : {A : Type 0} {P Q : A → Type 0} {xs : List A} → ((x : A) → P x → Q x) → Each P xs → Each Q xs
each-so f each_none = each_none
each-so f (each_more {x = x} p ps) = each_more (f x p) (each-so f ps)

-- an entry's key is at most that of any entry behind it
pub data Ascending {A : Type 0} (key : A → ℕ) : List A → Type 0 where
  ascends_none : Ascending key []
  ascends_more : {x : A} {xs : List A} → Each (λ (y : A). key x ≤ key y) xs → Ascending key xs → Ascending key (x ∷ xs)

module _ {A : Type 0} (key : A → ℕ) where
  pub counted-in : (p : ℕ) (x : A) (xs : List A) → key x < p → keys_below key p (x ∷ xs) ≡ 1 + keys_below key p xs
  unfolding keys_below
  counted-in p x xs h = rw (lt-ltb (key x) p h)

  pub passed_over : (p : ℕ) (x : A) (xs : List A) → p ≤ key x → keys_below key p (x ∷ xs) ≡ keys_below key p xs
  unfolding keys_below
  passed_over p x xs h = rw (le-ltb (key x) p h) (omega arith)

  pub below-append : (p : ℕ) (xs ys : List A) → keys_below key p (xs ++ ys) ≡ keys_below key p xs + keys_below key p ys
  unfolding keys_below
  below-append p [] ys = omega arith
  below-append p (x ∷ xs) ys = let e = below-append p xs ys in omega arith

  pub below-mono : (p q : ℕ) → p ≤ q → (xs : List A) → keys_below key p xs ≤ keys_below key q xs
  unfolding keys_below
  below-mono p q h [] = omega arith
  below-mono p q h (x ∷ xs) =
      let rest = below-mono p q h xs in
      elim (lt-or-ge (key x) p) [
        | inl l ↦ omega (arith, counted-in p x xs l, counted-in q x xs (omega arith))
        | inr g ↦ elim (lt-or-ge (key x) q) [
          | inl l ↦ omega (arith, passed_over p x xs g, counted-in q x xs l)
          | inr m ↦ omega (arith, passed_over p x xs g, passed_over q x xs m)
        ]
      ]

  pub below_all : (p : ℕ) → ((x : A) → key x < p) → (xs : List A) → keys_below key p xs ≡ length xs
  unfolding keys_below
  below_all p h [] = refl
  below_all p h (x ∷ xs) = let rest = below_all p h xs in let one = counted-in p x xs (h x) in omega arith

  below-least : {p : ℕ} {xs : List A} → Each (λ (y : A). p ≤ key y) xs → keys_below key p xs ≡ 0
  unfolding keys_below
  below-least each_none = refl
  below-least {p} (each_more {x = x} {xs = xs} h hs) = passed_over p x xs h ∙ below-least hs

  pub below-zero : (xs : List A) → keys_below key 0 xs ≡ 0
  unfolding keys_below
  below-zero [] = refl
  below-zero (x ∷ xs) = passed_over 0 x xs (omega arith) ∙ below-zero xs

  pub place-least : {xs : List A} → Ascending key xs → (k : ℕ) (d : A) → k < length xs → keys_below key (key (get_or xs k d)) xs ≤ k
  place-least ascends_none k d h = absurd (not-suc-le-zero h)
  place-least (ascends_more {x = x} {xs = xs} hs a) zero d h = let none = passed_over (key x) x xs (omega arith) in let rest = below-least hs in omega arith
  place-least (ascends_more {x = x} {xs = xs} hs a) (suc k) d h =
      let q = key (get_or xs k d) in
      let rest : keys_below key q xs ≤ k = place-least a k d (le_of_suc-le-suc h) in
      elim (lt-or-ge (key x) q) [
        | inl l ↦ omega (arith, counted-in q x xs l)
        | inr g ↦ omega (arith, passed_over q x xs g)
      ]

  pub place-most : {xs : List A} → Ascending key xs → (k : ℕ) (d : A) → k < length xs → k < keys_below key (key (get_or xs k d) + 1) xs
  place-most ascends_none k d h = absurd (not-suc-le-zero h)
  place-most (ascends_more {x = x} {xs = xs} hs a) zero d h = let one = counted-in (key x + 1) x xs (omega arith) in omega arith
  place-most (ascends_more {x = x} {xs = xs} hs a) (suc k) d h =
      let q = key (get_or xs k d) in
      let rest : k < keys_below key (q + 1) xs = place-most a k d (le_of_suc-le-suc h) in
      let in_order : key x ≤ q = each_at hs k d (le_of_suc-le-suc h) in
      let one = counted-in (q + 1) x xs (omega arith) in
      omega arith

  pub not_beyond : (xs : List A) (p q k : ℕ) → keys_below key p xs ≤ k → k < keys_below key (q + 1) xs → p ≤ q
  not_beyond xs p q k h l =
      elim (lt-or-ge q p) [
        | inl m ↦ let grows = below-mono (q + 1) p (omega arith) xs in omega arith
        | inr g ↦ g
      ]

  -- the one key with at most k below it, and more than k below its successor
  pub key-at : {xs : List A} → Ascending key xs → (k : ℕ) (d : A) → k < length xs → (p : ℕ) → keys_below key p xs ≤ k → k < keys_below key (p + 1) xs → p ≡ key (get_or xs k d)
  key-at {xs} a k d h p least most =
      let q = key (get_or xs k d) in
      le_antisymm (not_beyond xs p q k least (place-most a k d h)) (not_beyond xs q p k (place-least a k d h) most)
