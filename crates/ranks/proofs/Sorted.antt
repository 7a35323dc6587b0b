-- Sorting keeps the entries and so every count of them, and the sorted values ascend by their order keys, which carry the total order.
use mathlib.Core.Path.{◌≡◌, refl, ap, ◌∙◌, subst}
use mathlib.Core.Bool.{Bool, not, cond}
use mathlib.Core.List.{List, [], ◌∷◌}
use Prim.Native.Nat.{ℕ, suc, ◌+◌, ◌≤◌}
use native.Mathlib.Nat.{le_trans, le_of_lt}
use native.Mathlib.Omega.{arith}
use lib.Dec.{T, ltb, leb→le, nleb→lt}
use lib.ListN.{length}
use lib.Ieee.{Float, binary32, fits}
use Rattle.laws.specs.Order.{total_order, order_key}
use Rattle.laws.proofs.Cases.{by-test}
use Rattle.laws.proofs.Total.{total-order}
use Rattle.ranks.specs.Sorted.{inserted, sorted_of}
use Rattle.ranks.proofs.Count.{keys_below, Each, each_none, each_more, each-so, Ascending, ascends_none, ascends_more}

-- ---- every count
below-inserted : (key : Float → ℕ) (p : ℕ) (x : Float) (ys : List Float) → keys_below key p (inserted x ys) ≡ keys_below key p (x ∷ ys)
unfolding inserted keys_below
below-inserted key p x [] = refl
below-inserted key p x (y ∷ ys) =
    by-test (λ (l : List Float). keys_below key p l ≡ keys_below key p (x ∷ y ∷ ys)) (total_order x y) (λ _. refl)
    (λ _. ap (λ (n : ℕ). cond (ltb (key y) p) 1 0 + n) (below-inserted key p x ys) ∙ reordered (cond (ltb (key y) p) 1 0) (cond (ltb (key x) p) 1 0) (keys_below key p ys))
  where
    reordered : (a b n : ℕ) → a + (b + n) ≡ b + (a + n)
    reordered a b n = omega arith

pub below-sorted : (key : Float → ℕ) (p : ℕ) (xs : List Float) → keys_below key p (sorted_of xs) ≡ keys_below key p xs
unfolding sorted_of keys_below
below-sorted key p [] = refl
below-sorted key p (x ∷ xs) = below-inserted key p x (sorted_of xs) ∙ ap (λ (n : ℕ). cond (ltb (key x) p) 1 0 + n) (below-sorted key p xs)

length_inserted : (x : Float) (ys : List Float) → length (inserted x ys) ≡ suc (length ys)
unfolding inserted
length_inserted x [] = refl
length_inserted x (y ∷ ys) = by-test (λ (l : List Float). length l ≡ suc (suc (length ys))) (total_order x y) (λ _. refl) (λ _. ap suc (length_inserted x ys))

pub length-sorted : (xs : List Float) → length (sorted_of xs) ≡ length xs
unfolding sorted_of
length-sorted [] = refl
length-sorted (x ∷ xs) = length_inserted x (sorted_of xs) ∙ ap suc (length-sorted xs)

-- ---- what holds of every entry
each-inserted : {P : Float → Type 0} (x : Float) {ys : List Float} → P x → Each P ys → Each P (inserted x ys)
unfolding inserted
each-inserted x p each_none = each_more p each_none
each-inserted {P} x p (each_more {x = y} q qs) = by-test (λ (l : List Float). Each P l) (total_order x y) (λ _. each_more p (each_more q qs)) (λ _. each_more q (each-inserted x p qs))

pub each-sorted : {P : Float → Type 0} {xs : List Float} → Each P xs → Each P (sorted_of xs)
unfolding sorted_of
each-sorted each_none = each_none
each-sorted (each_more {x = x} p ps) = each-inserted x p (each-sorted ps)

-- ---- the order, for values that binary32 holds
abbrev pub InSingle : Float → Type 0
InSingle x = T (fits binary32 x)

abbrev key_of : Float → ℕ
key_of = order_key binary32

ascending-inserted : (x : Float) {ys : List Float} → InSingle x → Each InSingle ys → Ascending key_of ys → Ascending key_of (inserted x ys)
unfolding inserted
ascending-inserted x f fs ascends_none = ascends_more each_none ascends_none
ascending-inserted x f (each_more g gs) (ascends_more {x = y} {xs = ys} hs a) =
    let by_key = (total-order binary32).by_key x y f g in
    by-test (λ (l : List Float). Ascending key_of l) (total_order x y)
    (λ (t : T (total_order x y)).
    let le = leb→le (key_of x) (key_of y) (subst T by_key t) in
    ascends_more (each_more le (each-so (λ (z : Float) (h : key_of y ≤ key_of z). le_trans le h) hs)) (ascends_more hs a))
    (λ (t : T (not (total_order x y))).
    ascends_more (each-inserted x (le_of_lt (nleb→lt (key_of x) (key_of y) (subst (λ (b : Bool). T (not b)) by_key t))) hs) (ascending-inserted x f gs a))

pub ascending-sorted : {xs : List Float} → Each InSingle xs → Ascending key_of (sorted_of xs)
unfolding sorted_of
ascending-sorted each_none = ascends_none
ascending-sorted (each_more {x = x} f fs) = ascending-inserted x f (each-sorted fs) (ascending-sorted fs)
