-- The floor of a float is the largest whole number not above it: by its whole part where the sign is plus, and by the next where it is minus.
use Rattle.std.proofs.Common.{◌≡◌, ℕ, suc, ◌+◌, ◌*◌, ◌/◌, ◌%◌, ◌^◌, ◌<◌, ◌≤◌, Bool, true, false, not, T, eqb, ℤ, sym, refl, ap, ◌∙◌, subst, le_trans, le_of_eq, lt_of_lt_of_le, le_of_lt, lt-suc_self, div-lt_iff_lt-mul, lt_of_mul-lt-mul_right, one-mul, lt_of_not-le, div-add-mod', le-div_iff_mul-le, zero-mul, mul-one, div-mul-le_self, arith, lit≤, eqb→eq, T_not}
use native.Mathlib.Nat.{mul-mod_left, zero-mod}
use lib.Arith.{lt_of_le-ne}
use lib.Ieee.{Float, nan, inf, fin, binary32, up, down, fits, le, neg, round, of_int}
use lib.Ieee.Fits.{down_pos, eq→eqb, neg-fits, round-fits}
use lib.Ieee.Exact.{HasValue}
use lib.Ieee.Order.{le_of_values, transfer}
use lib.Ieee.Back.{round_whole}
use lib.Ieee.Scale.{finite}
use Rattle.laws.specs.Values.{negative, plus_zero}
use Rattle.laws.proofs.Cases.{by-test}
use Rattle.laws.proofs.Signs.{clear-is, neg-round}
use Rattle.laws.proofs.Order.{le_refl, le-neg, le_trans as order_trans, apart-le}
use Rattle.laws.proofs.Nonneg.{le→cross, nonneg→clear}
use Rattle.laws.proofs.Held.{fitting, value-nonneg}
use Rattle.laws.proofs.Total.{same_rank}
use Rattle.floors.specs.Floor.{floored, down_to, is_whole, LargestWhole, FloorIsLargest}
use Rattle.floors.proofs.Floors.{big-whole}

-- ---- a value that is n / 1 is whole, and a whole number is such a value
whole-of-value : (r : Float) (s : Bool) (n : ℕ) → HasValue r s n 1 → T (is_whole r)
whole-of-value nan s n v = absurd v
whole-of-value (inf t) s n v = absurd v
whole-of-value (fin t m e) s n v = eq→eqb (ap (λ (a : ℕ). a % down e) (sym (mul-one (m * up e)) ∙ v.1) ∙ mul-mod_left n (down e))

value-of-whole : (s : Bool) (m : ℕ) (e : ℤ) → T (is_whole (fin s m e)) → HasValue (fin s m e) s (m * up e / down e) 1
value-of-whole s m e w =
    let z : m * up e % down e ≡ 0 = eqb→eq (m * up e % down e) 0 w in
    let d : m * up e / down e * down e + m * up e % down e ≡ m * up e = div-add-mod' (m * up e) (down e) in
    (refl, mul-one (m * up e) ∙ omega arith)

whole-of-neg : (z : Float) (n : ℕ) → HasValue z false n 1 → T (is_whole (neg z))
unfolding neg
whole-of-neg nan n v = absurd v
whole-of-neg (inf t) n v = absurd v
whole-of-neg (fin t m e) n v = whole-of-value (fin t m e) false n v

-- the sign of what has the plus sign, turned round
flipped : (z : Float) (a c : ℕ) → HasValue z false a c → negative (neg z) ≡ true
unfolding neg
flipped nan a c v = absurd v
flipped (inf t) a c v = absurd v
flipped (fin t m e) a c v = ap not v.0

by_one : (a b : ℕ) → a ≤ b → a * 1 ≤ b * 1
by_one a b h = omega arith

-- ---- x is ±(m * up e / down e), and not whole
module _ (m : ℕ) (e : ℤ) (few : m < 2 ^ 24) (part : T (not (eqb (m * up e % down e) 0))) where
  abbrev q : ℕ
  q = m * up e / down e

  -- the size, with the plus sign
  abbrev extent : Float
  extent = fin false m e

  left_over : m * up e % down e ≡ 0 → ⊥
  left_over z = T_not (eqb (m * up e % down e) 0) part (eq→eqb z)

  below-limit : q < 2 ^ 23
  below-limit =
      (div-lt_iff_lt-mul (down_pos e)).1
      (lt_of_not-le (λ (g : 2 ^ 23 * down e ≤ m * up e). left_over (big-whole m e few (le_trans (le_of_eq (ap (λ (a : ℕ). a * down e) (one-mul (2 ^ 23)))) (le_trans g (le_of_eq (sym (mul-one (m * up e)))))))))

  exact : (s : Bool) (n : ℕ) → n ≤ 2 ^ 23 → HasValue (round binary32 s n 1) s n 1
  exact s n h = round_whole binary32 s n (le_trans h (lit≤ tt))

  between : q * down e < m * up e
  between = lt_of_le-ne (div-mul-le_self (m * up e) (down e)) (λ z. left_over (ap (λ (a : ℕ). a % down e) (sym z) ∙ mul-mod_left q (down e)))

  -- ---- the plus sign: q
  module _ (r : Float) (v : HasValue r false q 1) where
    plus-not-above : T (le r extent)
    plus-not-above = le_of_values r extent q 1 (m * up e) (down e) (lit≤ tt) (down_pos e) v (refl, refl) (le_trans (le_of_lt between) (le_of_eq (sym (mul-one (m * up e)))))

    plus-largest : (y : Float) → T (is_whole y) → T (le y extent) → T (le y r)
    plus-largest nan w h = absurd w
    plus-largest (inf t) w h = absurd w
    plus-largest (fin true n d) w h = apart-le (fin true n d) r tt (nonneg→clear r (value-nonneg r q 1 v))
    plus-largest (fin false n d) w h =
        let y = fin false n d in
        let p = n * up d / down d in
        let vy = value-of-whole false n d w in
        let under : p * down e ≤ m * up e * 1 = transfer p (m * up e) 1 (down e) (n * up d) (m * up e) (down d) (down e) (down_pos d) (down_pos e) (sym vy.1) refl (le→cross y extent tt tt h) in
        le_of_values y r p 1 q 1 (lit≤ tt) (lit≤ tt) vy v (by_one p q ((le-div_iff_mul-le (down_pos e)).1 (le_trans under (le_of_eq (mul-one (m * up e))))))

    plus-sign : T (fits binary32 r) → LargestWhole extent r
    plus-sign h = record { held = h; whole = whole-of-value r false q v; not_above = plus-not-above; largest = plus-largest; sign = (clear-is r (nonneg→clear r (value-nonneg r q 1 v))).1 }

  -- ---- the minus sign: -(q + 1), whose size is z
  module _ (z : Float) (v : HasValue z false (suc q) 1) where
    size-under : T (le extent z)
    size-under = le_of_values extent z (m * up e) (down e) (suc q) 1 (down_pos e) (lit≤ tt) (refl, refl) v (le_trans (le_of_eq (mul-one (m * up e))) (le_of_lt ((div-lt_iff_lt-mul (down_pos e)).0 (lt-suc_self q))))

    not-zero : T (le extent plus_zero) → ⊥
    not-zero h = left_over (ap (λ (a : ℕ). a % down e) (none (m * up e) (down e) (le→cross extent plus_zero tt tt h)) ∙ zero-mod (down e))
      where
        none : (a c : ℕ) → a * 1 ≤ 0 * c → a ≡ 0
        none a c h = let k = zero-mul c in omega arith

    minus-largest : (y : Float) → T (is_whole y) → T (le y (neg extent)) → T (le y (neg z))
    unfolding neg
    minus-largest nan w h = absurd w
    minus-largest (inf t) w h = absurd w
    minus-largest (fin false n d) w h = absurd (not-zero (order_trans extent (fin true n d) plus_zero (le-neg (fin false n d) (fin true m e) h) (apart-le (fin true n d) plus_zero tt tt)))
    minus-largest (fin true n d) w h =
        let y = fin false n d in
        let p = n * up d / down d in
        let vy = value-of-whole false n d w in
        let over : m * up e * 1 ≤ p * down e = transfer (m * up e) p (down e) 1 (m * up e) (n * up d) (down e) (down d) (down_pos e) (down_pos d) refl (sym vy.1) (le→cross extent y tt tt (le-neg (fin true n d) (fin true m e) h)) in
        let more : q < p = lt_of_mul-lt-mul_right (down e) (lt_of_lt_of_le between (le_trans (le_of_eq (sym (mul-one (m * up e)))) over)) in
        le-neg z y (le_of_values z y (suc q) 1 p 1 (lit≤ tt) (lit≤ tt) v vy (by_one (suc q) p more))

    minus-sign : T (fits binary32 z) → LargestWhole (neg extent) (neg z)
    unfolding neg
    minus-sign h = record { held = neg-fits binary32 z h; whole = whole-of-neg z (suc q) v; not_above = le-neg extent z size-under; largest = minus-largest; sign = flipped z (suc q) 1 v }

-- ---- the theorem
floor-largest : (x : Float) → T (fits binary32 x) → T (finite x) → LargestWhole x (floored x)
unfolding floored of_int neg
floor-largest nan h f = absurd f
floor-largest (inf s) h f = absurd f
floor-largest (fin s m e) h f =
    by-test (LargestWhole (fin s m e)) (eqb (m * up e % down e) 0)
    (λ w. record { held = h; whole = w; not_above = le_refl (fin s m e) tt; largest = λ y k l. l; sign = refl })
    (λ n. by_sign s n)
  where
    by_sign : (t : Bool) → T (not (eqb (m * up e % down e) 0)) → LargestWhole (fin t m e) (of_int binary32 (down_to t (m * up e / down e)))
    by_sign false n =
        let few = (fitting binary32 s m e h).few in
        let q = m * up e / down e in
        plus-sign m e few n _ (exact m e few n false q (le_of_lt (below-limit m e few n))) (round-fits binary32 false q 1)
    by_sign true n =
        let few = (fitting binary32 s m e h).few in
        let k = suc (m * up e / down e) in
        subst (LargestWhole (fin true m e)) (neg-round binary32 k 1) (minus-sign m e few n (round binary32 false k 1) (exact m e few n false k (below-limit m e few n)) (round-fits binary32 false k 1))

-- of two such values neither is above the other, and they have one sign
pub floor-is-largest : FloorIsLargest
floor-is-largest x h f =
    let l = floor-largest x h f in
    record {
      largest_whole = l;
      only = λ s p. same_rank binary32 s (floored x) p.held l.held (p.sign ∙ sym l.sign) (l.largest s p.whole p.not_above) (p.largest (floored x) l.whole l.not_above);
    }
