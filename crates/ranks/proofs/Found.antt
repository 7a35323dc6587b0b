-- The counts of the first values are those of their sorted list, so the search by counting ends at the key at the rank.
use mathlib.Core.Path.{◌≡◌, refl, sym, ap, ◌∙◌, subst}
use mathlib.Core.Bool.{cond}
use mathlib.Core.List.{List, [], ◌∷◌}
use Prim.Native.Nat.{ℕ, zero, suc, ◌+◌, ◌≤◌, ◌<◌}
use native.Mathlib.Omega.{arith}
use lib.Dec.{ltb}
use lib.ListN.{length, get_or, take}
use lib.Seq.{length-take-le}
use lib.Ieee.{Float, nan, binary32}
use Rattle.laws.specs.Order.{order_key}
use Rattle.std.proofs.lemmas.List.Sums.{sum_by-cons}
use Rattle.ranks.specs.Sorted.{sorted_of}
use Rattle.ranks.specs.inside.Search.{count_below, key_at_rank, SoughtIn}
use Rattle.ranks.proofs.Count.{keys_below, Each, each_none, each_more, below_all, below-zero, key-at}
use Rattle.ranks.proofs.Sorted.{below-sorted, length-sorted, ascending-sorted, InSingle}
use Rattle.ranks.proofs.Keys.{key-lt}

-- ---- counting the values
pub count-below-is : (ws : List Float) (bound : ℕ) → count_below ws bound ≡ keys_below (order_key binary32) bound ws
unfolding count_below keys_below
count-below-is [] bound = refl
count-below-is (x ∷ xs) bound =
    sum_by-cons (λ (y : Float). cond (ltb (order_key binary32 y) bound) 1 0) x xs ∙ ap (λ (n : ℕ). cond (ltb (order_key binary32 x) bound) 1 0 + n) (count-below-is xs bound)

pub each_take : (ws : List Float) (n : ℕ) → ((i : ℕ) → InSingle (get_or ws i nan)) → Each InSingle (take n ws)
each_take ws zero h = each_none
each_take [] (suc n) h = each_none
each_take (w ∷ ws) (suc n) h = each_more (h 0) (each_take ws n (λ (i : ℕ). h (suc i)))

-- ---- the search
module _ (ws : List Float) (n rank : ℕ) where
  pub search-starts : rank < n → n ≤ length ws → SoughtIn ws n rank 0 0x1_0000_0000
  search-starts inside room =
      let none : keys_below (order_key binary32) 0 (take n ws) ≡ 0 = below-zero (order_key binary32) (take n ws) in
      let all = below_all (order_key binary32) 0x1_0000_0000 (key-lt binary32) (take n ws) in
      record { inside = inside; room = room; some = omega arith; keys = omega arith; least = omega (arith, count-below-is (take n ws) 0, none); most = omega (arith, count-below-is (take n ws) 0x1_0000_0000, all, length-take-le n ws room) }

  pub search-ends : ((i : ℕ) → InSingle (get_or ws i nan)) → (key width : ℕ) → SoughtIn ws n rank key width → width ≤ 1 → key ≡ key_at_rank (take n ws) rank
  unfolding key_at_rank
  search-ends fit key width now last =
      let xs = take n ws in
      let one : width ≡ 1 = omega (arith, now.some) in
      key-at (order_key binary32) (ascending-sorted (each_take ws n fit)) rank nan (omega (arith, length-sorted xs, length-take-le n ws now.room, now.inside)) key
      (subst (λ (m : ℕ). m ≤ rank) (same_count key) now.least)
      (subst (λ (m : ℕ). rank < m) (same_count (key + 1)) (subst (λ (w : ℕ). rank < count_below (take n ws) (key + w)) one now.most))
    where
      same_count : (p : ℕ) → count_below (take n ws) p ≡ keys_below (order_key binary32) p (sorted_of (take n ws))
      same_count p = count-below-is (take n ws) p ∙ sym (below-sorted (order_key binary32) p (take n ws))
