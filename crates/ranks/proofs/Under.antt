-- A bound that is no zero and no NaN parts values as its order key does, so counting by `<` counts by keys.
use mathlib.Core.Path.{◌≡◌, refl, sym, ap, ◌∙◌, subst}
use mathlib.Core.Logic.{◌⊎◌, inl, inr}
use mathlib.Core.Bool.{Bool, true, false, not, cond}
use mathlib.Core.List.{List}
use Prim.Native.Nat.{ℕ, ◌+◌}
use native.Mathlib.Nat.{not-le_of_lt}
use lib.Dec.{T, ltb, leb, leb→le, nleb→lt, lt→ltb, ltb→lt}
use lib.Ieee.{Float, nan, binary32, is_nan, lt}
use lib.Ieee.Bits.{is_false}
use Rattle.laws.specs.Order.{total_order, order_key}
use Rattle.laws.specs.Values.{negative, plus_zero, clear}
use Rattle.laws.proofs.Cases.{passed-or-failed, same_test, or_split}
use Rattle.laws.proofs.Order.{lt_not_le, lt_of_le_of_lt, lt→le, le_left, apart-le}
use Rattle.laws.proofs.Zero.{plus_zero-least, above-clear}
use Rattle.laws.proofs.Signs.{kind, clear-is, negative-is}
use Rattle.std.specs.Prelude.{count_by}
use Rattle.std.proofs.lemmas.List.Sums.{sum_by-cons}
use Rattle.laws.proofs.Total.{total-order}
use Rattle.ranks.specs.inside.Search.{count_below}
use Rattle.ranks.specs.inside.Narrow.{divides, count_under}
use Rattle.ranks.proofs.Count.{Each, each_none, each_more}
use Rattle.ranks.proofs.Sorted.{InSingle}

-- ---- a bound below zero has the sign minus
below-zero : (b : Float) → T (lt b plus_zero) → (b ≡ nan) ⊎ (T (clear b) ⊎ T (negative b)) → T (negative b)
below-zero b l (inl e) = absurd (le_left nan plus_zero (lt→le nan plus_zero (subst (λ (x : Float). T (lt x plus_zero)) e l)))
below-zero b l (inr (inl c)) = absurd (lt_not_le b plus_zero l (plus_zero-least b c))
below-zero b l (inr (inr n)) = n

-- ---- where x is not below the bound, the bound is at or before x
last-test : (t u : Bool) → u ≡ true → cond t true u ≡ true
last-test true u h = refl
last-test false u h = h

negative-before : (b x : Float) → T (negative b) → is_nan x ≡ false → lt x b ≡ false → total_order b x ≡ true
unfolding total_order
negative-before b x n o l = rw ((negative-is b n).0, (negative-is b n).1, o, l) (last-test (lt b x) true refl)

clear-before : (b x : Float) → T (clear b) → T (clear x) → lt x b ≡ false → total_order b x ≡ true
unfolding total_order
clear-before b x c d l = rw ((clear-is b c).0, (clear-is b c).1, (clear-is x d).0, (clear-is x d).1, l) (last-test (lt b x) true refl)

bound-before : (b x : Float) → T (lt b plus_zero) ⊎ T (lt plus_zero b) → (x ≡ nan) ⊎ (T (clear x) ⊎ T (negative x)) → lt x b ≡ false → total_order b x ≡ true
bound-before b x h (inl e) l = ap (total_order b) e ∙ ((total-order binary32).nan_last b).0
bound-before b x (inl h) (inr (inl c)) l = negative-before b x (below-zero b h (kind b)) (clear-is x c).0 l
bound-before b x (inl h) (inr (inr n)) l = negative-before b x (below-zero b h (kind b)) (negative-is x n).0 l
bound-before b x (inr h) (inr (inl c)) l = clear-before b x (above-clear b h) c l
bound-before b x (inr h) (inr (inr n)) l = absurd (subst T l (lt_of_le_of_lt x plus_zero b (apart-le x plus_zero n tt) h))

module _ (b : Float) (d : T (divides b)) (g : InSingle b) where
  pub under-key : (x : Float) → InSingle x → lt x b ≡ ltb (order_key binary32 x) (order_key binary32 b)
  under-key x h = same_test (lt x b) (ltb (order_key binary32 x) (order_key binary32 b)) forth back
    where
      by_key : total_order b x ≡ leb (order_key binary32 b) (order_key binary32 x)
      by_key = (total-order binary32).by_key b x g h

      forth : T (lt x b) → T (ltb (order_key binary32 x) (order_key binary32 b))
      forth l =
          lt→ltb (order_key binary32 x) (order_key binary32 b)
          (nleb→lt (order_key binary32 b) (order_key binary32 x) (subst (λ (t : Bool). T (not t)) (sym ((total-order binary32).by_value x b l).1 ∙ by_key) tt))

      back : T (ltb (order_key binary32 x) (order_key binary32 b)) → T (lt x b)
      back l = elim (passed-or-failed (lt x b)) [
        | inl t ↦ t
        | inr n ↦ absurd (not-le_of_lt (ltb→lt (order_key binary32 x) (order_key binary32 b) l) (leb→le (order_key binary32 b) (order_key binary32 x) (subst T (sym (bound-before b x (or_split (lt b plus_zero) (lt plus_zero b) d) (kind x) (is_false (lt x b) n)) ∙ by_key) tt)))
      ]

  pub count-under-is : {ws : List Float} → Each InSingle ws → count_under ws b ≡ count_below ws (order_key binary32 b)
  unfolding count_under count_below
  count-under-is each_none = refl
  count-under-is (each_more {x = x} {xs = xs} fit fits) =
      sum_by-cons (λ (y : Float). cond (lt y b) 1 0) x xs
      ∙ ap (λ (t : Bool). cond t 1 0 + count_by (λ (y : Float). lt y b) xs) (under-key x fit)
      ∙ ap (λ (n : ℕ). cond (ltb (order_key binary32 x) (order_key binary32 b)) 1 0 + n) (count-under-is fits)
      ∙ sym (sum_by-cons (λ (y : Float). cond (ltb (order_key binary32 y) (order_key binary32 b)) 1 0) x xs)
