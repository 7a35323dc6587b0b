-- Rust's `max` and `min` of two floats are the last and the first in the total order, a NaN passed over: `<` decides, or of equal numbers the sign.
-- Of two values that are finite with the sign clear they pick the larger and the smaller.
use mathlib.Core.Path.{◌≡◌, refl, sym, ap, ◌∙◌, subst}
use mathlib.Core.Logic.{◌⊎◌, inl, inr}
use Prim.Native.Nat.{ℕ, ◌*◌}
use mathlib.Core.Bool.{Bool, true, false, not, ◌&&◌, ◌||◌, beq, cond}
use lib.Dec.{T, T_not, eqb, eqb→eq}
use lib.Ieee.{Float, nan, inf, fin, Format, binary32, up, down, level, lt, eq, le, fits, is_nan}
use lib.Ieee.Fits.{cond-fits, and_i, and_l, and_r, eq→eqb}
use lib.Ieee.Bits.{is_true, is_false}
use Rattle.laws.specs.Order.{total_order}
use Rattle.laws.specs.Pick.{maximum_number, minimum_number, LastNumber, MaximumIs, MinimumIs}
use Rattle.laws.specs.Values.{negative, clear, nonneg, plus_zero, Held}
use Rattle.laws.proofs.Order.{lt→le, le_left, le_right, le_refl, not-lt→le, le→not-lt, apart-le}
use Rattle.laws.proofs.Nonneg.{nonneg→ordered}
use Rattle.laws.proofs.Cases.{by-test, passed-or-failed, or_r, or_split}
use Rattle.laws.proofs.Signs.{kind, nan_is, clear-is, negative-is, ordered_of, ordered-is}
use Rattle.laws.proofs.Held.{le_antisym}
use Rattle.laws.proofs.Total.{total-order}

-- ---- in the total order, where `<` does not say the contrary
module _ (x y : Float) (n : is_nan x ≡ false) (h : T (not (lt y x))) where
  ranked : T (negative x || not (negative y)) → T (total_order x y)
  unfolding total_order
  ranked s = rw (n, is_false (lt y x) h) (by-test T (is_nan y) {x = true} (λ _. tt) (λ _. by-test T (lt x y) {x = true} (λ _. tt) (λ _. s)))

  minus-first : T (negative x) → T (total_order x y)
  minus-first s = ranked (subst (λ (b : Bool). T (b || not (negative y))) (sym (is_true (negative x) s)) tt)

  plus-last : T (not (negative y)) → T (total_order x y)
  plus-last s = ranked (or_r (negative x) (not (negative y)) s)

itself : (x : Float) → T (total_order x x)
itself x = elim (kind x) [
  | inl e ↦ rw e (unfold total_order is_nan in tt)
  | inr k ↦ elim k [ inl c ↦ numbered (clear-is x c).0 | inr m ↦ numbered (negative-is x m).0 ]
]
  where
    numbered : is_nan x ≡ false → T (total_order x x)
    numbered n = let h = le→not-lt x x (le_refl x (ordered_of x n)) in elim (passed-or-failed (negative x)) [ inl s ↦ minus-first x x n h s | inr s ↦ plus-last x x n h s ]

-- ---- what the tests of the two say
some-passed : (a b c : Bool) → T (a || b || c) → T a ⊎ (T b ⊎ T c)
some-passed true b c t = inl tt
some-passed false true c t = inr (inl tt)
some-passed false false c t = inr (inr t)

all-failed : (a b c : Bool) → T (not (a || b || c)) → T (not a) × (T (not b) × T (not c))
all-failed true b c t = absurd t
all-failed false true c t = absurd t
all-failed false false c t = (tt, (tt, t))

level-swap : (s : Bool) (a : ℕ) (t : Bool) (b : ℕ) → T (level s a t b) → T (level t b s a)
level-swap s a t b h =
    let e : a ≡ b = eqb→eq a b (and_l (eqb a b) (beq s t || eqb a 0) h) in
    and_i (eqb b a) (beq t s || eqb b 0) (eq→eqb (sym e)) (signs s t (and_r (eqb a b) (beq s t || eqb a 0) h) e)
  where
    signs : (s t : Bool) → T (beq s t || eqb a 0) → a ≡ b → T (beq t s || eqb b 0)
    signs true true z e = tt
    signs false false z e = tt
    signs true false z e = subst (λ (n : ℕ). T (eqb n 0)) e z
    signs false true z e = subst (λ (n : ℕ). T (eqb n 0)) e z

eq_swap : (x y : Float) → T (eq x y) → T (eq y x)
unfolding eq
eq_swap nan y h = absurd h
eq_swap (inf s) nan h = absurd h
eq_swap (inf true) (inf true) h = tt
eq_swap (inf true) (inf false) h = absurd h
eq_swap (inf false) (inf true) h = absurd h
eq_swap (inf false) (inf false) h = tt
eq_swap (inf s) (fin t n d) h = absurd h
eq_swap (fin s m e) nan h = absurd h
eq_swap (fin s m e) (inf t) h = absurd h
eq_swap (fin s m e) (fin t n d) h = level-swap s (m * up e * down d) t (n * up d * down e) h

-- equal numbers are not below each other
level-under : (x y : Float) → T (eq x y) → T (not (lt y x))
level-under x y h = le→not-lt x y (unfold le in or_r (lt x y) (eq x y) h)

-- numbers of which the second is not below the first, by `<` and by the sign of equals
in_order : (x y : Float) → is_nan x ≡ false → is_nan y ≡ false → T (not (lt y x)) → (T (eq x y) → T (not (negative y))) → T (total_order x y)
in_order x y n k h s = elim (or_split (lt x y) (eq x y) (unfold le in not-lt→le y x (ordered_of y k) (ordered_of x n) h)) [
  | inl l ↦ subst T (sym ((total-order binary32).by_value x y l).0) tt
  | inr e ↦ plus-last x y n h (s e)
]

-- equals whose sign is not minus, where the tie is not taken
no_tie : (a b : Bool) → T (not (a && b)) → T a → T (not b)
no_tie true b t h = t
no_tie false b t h = absurd h

-- ---- the one of two that a test picks, y where it passes
record Picks (before : Float → Float → Bool) (x y : Float) : Type 0 where
  at_last : T (before y y)
  number : y ≡ nan → x ≡ nan
  after : is_nan x ≡ false → T (before x y)

picked : (before : Float → Float → Bool) (x y : Float) (b : Bool) → (T b → Picks before x y) → (T (not b) → Picks before y x) → LastNumber before x y (cond b y x)
picked before x y true h k = let p = h tt in record { one_of_two = inr refl; nan_only = λ e. (p.number e, e); after_x = p.after; after_y = λ _. p.at_last }
picked before x y false h k = let p = k tt in record { one_of_two = inl refl; nan_only = λ e. (e, p.number e); after_x = λ _. p.at_last; after_y = p.after }

-- a test that passed compares with no NaN, or x is one
compared-number : (z y : Float) → T (le z y) → y ≡ nan → ⊥
compared-number z y h e = rw e at (le_right z y h)

eq→le : (x y : Float) → T (eq x y) → T (le x y)
unfolding le
eq→le x y h = or_r (lt x y) (eq x y) h

not-nan-of : (x : Float) → is_nan x ≡ false → T (is_nan x) → ⊥
not-nan-of x n t = rw n at t

module _ (x y : Float) where
  max-second : T (is_nan x || lt x y || (eq x y && negative x)) → Picks total_order x y
  max-second t = record {
    at_last = itself y;
    number = λ e. elim (some-passed (is_nan x) (lt x y) (eq x y && negative x) t) [
      | inl n ↦ nan_is x (is_true (is_nan x) n)
      | inr (inl l) ↦ absurd (compared-number x y (lt→le x y l) e)
      | inr (inr q) ↦ absurd (compared-number x y (eq→le x y (and_l (eq x y) (negative x) q)) e)
    ];
    after = λ n. elim (some-passed (is_nan x) (lt x y) (eq x y && negative x) t) [
      | inl a ↦ absurd (not-nan-of x n a)
      | inr (inl l) ↦ subst T (sym ((total-order binary32).by_value x y l).0) tt
      | inr (inr q) ↦ minus-first x y n (level-under x y (and_l (eq x y) (negative x) q)) (and_r (eq x y) (negative x) q)
    ];
  }

  max-first : T (not (is_nan x || lt x y || (eq x y && negative x))) → Picks total_order y x
  max-first t =
      let f = all-failed (is_nan x) (lt x y) (eq x y && negative x) t in
      record {
        at_last = itself x;
        number = λ e. absurd (T_not (is_nan x) f.0 (rw e (unfold is_nan in tt)));
        after = λ k. in_order y x k (is_false (is_nan x) f.0) f.1.0 (λ q. no_tie (eq x y) (negative x) f.1.1 (eq_swap y x q));
      }

  min-second : T (is_nan x || lt y x || (eq x y && negative y)) → Picks (λ (a b : Float). total_order b a) x y
  min-second t = record {
    at_last = itself y;
    number = λ e. elim (some-passed (is_nan x) (lt y x) (eq x y && negative y) t) [
      | inl n ↦ nan_is x (is_true (is_nan x) n)
      | inr (inl l) ↦ absurd (rw e at (le_left y x (lt→le y x l)))
      | inr (inr q) ↦ absurd (compared-number x y (eq→le x y (and_l (eq x y) (negative y) q)) e)
    ];
    after = λ n. elim (some-passed (is_nan x) (lt y x) (eq x y && negative y) t) [
      | inl a ↦ absurd (not-nan-of x n a)
      | inr (inl l) ↦ subst T (sym ((total-order binary32).by_value y x l).0) tt
      | inr (inr q) ↦
          let same = and_l (eq x y) (negative y) q in
          minus-first y x (ordered-is y (le_right x y (eq→le x y same))) (level-under y x (eq_swap x y same)) (and_r (eq x y) (negative y) q)
    ];
  }

  min-first : T (not (is_nan x || lt y x || (eq x y && negative y))) → Picks (λ (a b : Float). total_order b a) y x
  min-first t =
      let f = all-failed (is_nan x) (lt y x) (eq x y && negative y) t in
      record {
        at_last = itself x;
        number = λ e. absurd (T_not (is_nan x) f.0 (rw e (unfold is_nan in tt)));
        after = λ k. in_order x y (is_false (is_nan x) f.0) k f.1.0 (λ q. no_tie (eq x y) (negative y) f.1.1 q);
      }

-- ---- and no other value is the last: of two such, each would be before the other
module _ (before : Float → Float → Bool) (x y : Float) (same : T (before x y) → T (before y x) → x ≡ y) where
  meet : (r s : Float) → LastNumber before x y r → LastNumber before x y s → r ≡ x → s ≡ y → x ≡ y
  meet r s lr ls a b = elim (kind x) [
    | inl e ↦ let both = lr.nan_only (a ∙ e) in e ∙ sym both.1
    | inr h ↦ elim (kind y) [
      | inl e ↦ let both = ls.nan_only (b ∙ e) in both.0 ∙ sym e
      | inr k ↦ same (subst (λ (z : Float). T (before x z)) b (ls.after_x (number x h))) (subst (λ (z : Float). T (before y z)) a (lr.after_y (number y k)))
    ]
  ]
    where
      number : (z : Float) → T (clear z) ⊎ T (negative z) → is_nan z ≡ false
      number z (inl c) = (clear-is z c).0
      number z (inr m) = (negative-is z m).0

  one_last : (r s : Float) → LastNumber before x y r → LastNumber before x y s → s ≡ r
  one_last r s lr ls = go lr.one_of_two ls.one_of_two
    where
      go : (r ≡ x) ⊎ (r ≡ y) → (s ≡ x) ⊎ (s ≡ y) → s ≡ r
      go (inl a) (inl b) = b ∙ sym a
      go (inr a) (inr b) = b ∙ sym a
      go (inl a) (inr b) = b ∙ sym (meet r s lr ls a b) ∙ sym a
      go (inr a) (inl b) = b ∙ meet s r ls lr b a ∙ sym a

pub maximum-is : MaximumIs
unfolding maximum_number
maximum-is x y =
    let l = picked total_order x y (is_nan x || lt x y || (eq x y && negative x)) (max-second x y) (max-first x y) in
    record { last = l; only = λ f h k s p. one_last total_order x y (λ a b. (total-order f).antisymmetric x y h k a b) (maximum_number x y) s l p }

pub minimum-is : MinimumIs
unfolding minimum_number
minimum-is x y =
    let l = picked (λ (a b : Float). total_order b a) x y (is_nan x || lt y x || (eq x y && negative y)) (min-second x y) (min-first x y) in
    record { last = l; only = λ f h k s p. one_last (λ (a b : Float). total_order b a) x y (λ a b. (total-order f).antisymmetric x y h k b a) (minimum_number x y) s l p }

-- ---- with the sign clear only the order counts
not-nan : (x : Float) → T (nonneg x) → is_nan x ≡ false
unfolding is_nan
not-nan nan p = absurd p
not-nan (inf s) p = refl
not-nan (fin s m e) p = refl

not_negative : (x : Float) → T (nonneg x) → negative x ≡ false
not_negative nan p = refl
not_negative (inf s) p = absurd p
not_negative (fin true m e) p = absurd p
not_negative (fin false m e) p = refl

drop-tie : (a b : Bool) → a || (b && false) ≡ a
drop-tie true b = refl
drop-tie false true = refl
drop-tie false false = refl

max-is : (x y : Float) → T (nonneg x) → maximum_number x y ≡ cond (lt x y) y x
unfolding maximum_number
max-is x y p = rw (not-nan x p, not_negative x p) (ap (λ (b : Bool). cond b y x) (drop-tie (lt x y) (eq x y)))

min-is : (x y : Float) → T (nonneg x) → T (nonneg y) → minimum_number x y ≡ cond (lt y x) y x
unfolding minimum_number
min-is x y p q = rw (not-nan x p, not_negative y q) (ap (λ (b : Bool). cond b y x) (drop-tie (lt y x) (eq x y)))

-- ---- the larger and the smaller, in either place
pub max-left : (x y : Float) → T (nonneg x) → T (le y x) → maximum_number x y ≡ x
max-left x y p h = max-is x y p ∙ ap (λ (b : Bool). cond b y x) (is_false (lt x y) (le→not-lt y x h))

pub min-left : (x y : Float) → T (nonneg x) → T (nonneg y) → T (le x y) → minimum_number x y ≡ x
min-left x y p q h = min-is x y p q ∙ ap (λ (b : Bool). cond b y x) (is_false (lt y x) (le→not-lt x y h))

-- at the second place two equal numbers have to be equal data, so the format has to hold them
second : (b : Bool) (x y : Float) → (T (not b) → x ≡ y) → cond b y x ≡ y
second true x y k = refl
second false x y k = k tt

pub max-right : (f : Format) (x y : Float) → Held f x → Held f y → T (le x y) → maximum_number x y ≡ y
max-right f x y p q h =
    max-is x y p.at_least_zero
    ∙ second (lt x y) x y (λ (n : T (not (lt x y))). le_antisym f x y p q h (not-lt→le x y (nonneg→ordered x p.at_least_zero) (nonneg→ordered y q.at_least_zero) n))

pub min-right : (f : Format) (x y : Float) → Held f x → Held f y → T (le y x) → minimum_number x y ≡ y
min-right f x y p q h =
    min-is x y p.at_least_zero q.at_least_zero
    ∙ second (lt y x) x y (λ (n : T (not (lt y x))). le_antisym f x y p q (not-lt→le y x (nonneg→ordered y q.at_least_zero) (nonneg→ordered x p.at_least_zero) n) h)

-- ---- `x.max(0.0)` has the sign clear and is no NaN, whatever x is
kept-clear : (x : Float) → T (not (is_nan x || lt x plus_zero || (eq x plus_zero && negative x))) → T (clear x)
unfolding is_nan
kept-clear nan n = absurd n
kept-clear (inf true) n = absurd (T_not (lt (inf true) plus_zero || (eq (inf true) plus_zero && true)) n (unfold lt eq in tt))
kept-clear (inf false) n = tt
kept-clear (fin true m e) n = absurd (T_not (lt (fin true m e) plus_zero || (eq (fin true m e) plus_zero && true)) n (tie (lt (fin true m e) plus_zero) (eq (fin true m e) plus_zero) (unfold le in apart-le (fin true m e) plus_zero tt tt)))
  where
    tie : (a b : Bool) → T (a || b) → T (a || (b && true))
    tie true b t = tt
    tie false true t = tt
    tie false false t = t
kept-clear (fin false m e) n = tt

pub max-zero-clear : (x : Float) → T (clear (maximum_number x plus_zero))
unfolding maximum_number
max-zero-clear x = by-test (λ (z : Float). T (clear z)) (is_nan x || lt x plus_zero || (eq x plus_zero && negative x)) (λ _. tt) (kept-clear x)

pub max-fits : (f : Format) (x y : Float) → T (fits f x) → T (fits f y) → T (fits f (maximum_number x y))
unfolding maximum_number
max-fits f x y h k = cond-fits f (is_nan x || lt x y || (eq x y && negative x)) y x k h
