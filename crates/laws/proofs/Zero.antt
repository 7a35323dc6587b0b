-- +0: nothing with the sign clear is below it, all above it has that sign, and adding it or taking it away changes no value that the format holds. So a sum is no less than
-- either part, and a difference no more than what it was taken from.
use mathlib.Core.Path.{◌≡◌, refl, sym, ap, ◌∙◌, subst, subst₂}
use Prim.Native.Nat.{ℕ, ◌+◌, ◌-◌, ◌*◌, ◌≤◌, ◌<◌, zero-le}
use native.Mathlib.Nat.{le_refl as nat-refl, sub_self, mul-pos, zero-mul, mul-one, one-mul, add-zero, zero-add, sub-zero}
use native.Mathlib.Omega.{arith}
use mathlib.Core.Bool.{Bool, true, false, not, ◌&&◌, beq, cond}
use lib.Dec.{T, ltb, nltb→le}
use lib.Arith.{le→nltb}
use lib.Ieee.{Float, nan, inf, fin, Format, binary32, binary64, up, down, round, sum, add, sub, neg, div, eq, lt, le, fits}
use lib.Ieee.Fits.{down_pos, neg-fits}
use lib.Ieee.Bits.{is_false}
use lib.Ieee.Scale.{finite}
use borrow.Author.Tests.{le-ltb}
use lib.Ieee.Positive.{num, den, positive}
use Rattle.laws.specs.Values.{clear, nonneg, plus_zero, minus_zero, one, Held}
use Rattle.laws.proofs.Cases.{by-test}
use Rattle.laws.proofs.Order.{lt→le, lt_not_le, le_right, le_refl, apart-le}
use Rattle.laws.proofs.Signs.{neg-round}
use Rattle.laws.proofs.Swap.{add-swap}
use Rattle.laws.proofs.Nonneg.{nonneg→clear, clear→ordered, nonneg→ordered, greatest, cross→le, add_rounds, add-mono, add-inf-left, add-inf-right, sub-rounds, sub-mono, positive→nonneg, nonneg-under, rounds-mono, div-rounds, le→cross}
use Rattle.laws.proofs.Held.{held-rounds, rounds-back}

pub plus_zero-held : (f : Format) → Held f plus_zero
plus_zero-held binary32 = record { in_format = unfold fits in tt; at_least_zero = tt }
plus_zero-held binary64 = record { in_format = unfold fits in tt; at_least_zero = tt }

pub plus_zero-least : (x : Float) → T (clear x) → T (le plus_zero x)
plus_zero-least nan c = absurd c
plus_zero-least (inf true) c = absurd c
plus_zero-least (inf false) c = greatest plus_zero tt
plus_zero-least (fin s m e) c = cross→le plus_zero (fin s m e) tt c (subst (λ (z : ℕ). z ≤ num (fin s m e) * 1) (sym (zero-mul (den (fin s m e)))) zero-le)

pub above-clear : (x : Float) → T (lt plus_zero x) → T (clear x)
above-clear nan h = le_right plus_zero nan (lt→le plus_zero nan h)
above-clear (inf true) h = absurd (lt_not_le plus_zero (inf true) h (apart-le (inf true) plus_zero tt tt))
above-clear (inf false) h = tt
above-clear (fin true m e) h = absurd (lt_not_le plus_zero (fin true m e) h (apart-le (fin true m e) plus_zero tt tt))
above-clear (fin false m e) h = tt

-- ---- x + 0, 0 + x and x - 0
pub add-plus_zero : (f : Format) (x : Float) → T (fits f x) → T (clear x) → add f x plus_zero ≡ x
add-plus_zero f nan h c = absurd c
add-plus_zero f (inf true) h c = absurd c
add-plus_zero f (inf false) h c = add-inf-left f plus_zero tt
add-plus_zero f (fin s m e) h c = rounds-back (fin s m e) (record { in_format = h; at_least_zero = c }) (add_rounds f (fin s m e) plus_zero c tt) (simp (mul-one, zero-mul, add-zero))

pub plus_zero-add : (f : Format) (x : Float) → T (fits f x) → T (clear x) → add f plus_zero x ≡ x
plus_zero-add f nan h c = absurd c
plus_zero-add f (inf true) h c = absurd c
plus_zero-add f (inf false) h c = add-inf-right f plus_zero tt
plus_zero-add f (fin s m e) h c = rounds-back (fin s m e) (record { in_format = h; at_least_zero = c }) (add_rounds f plus_zero (fin s m e) tt c) (simp (mul-one, one-mul, zero-mul, zero-add))

-- -0 adds nothing either
signless : (f : Format) (z b c : ℕ) → z ≡ 0 → cond (ltb z b) (round f false (b - z) c) (round f (ltb b z) (z - b) c) ≡ round f false (z + b) c
signless f z b c e =
    by-test (λ (x : Float). x ≡ round f false (z + b) c) (ltb z b)
    (λ _. let k : b - z ≡ z + b = omega arith in ap (λ (a : ℕ). round f false a c) k)
    (λ n. let l : b ≤ z = nltb→le z b n in let k : z - b ≡ z + b = omega arith in let g : z ≤ b = omega arith in
    ap (λ (s : Bool). round f s (z - b) c) (is_false (ltb b z) (le→nltb b z g)) ∙ ap (λ (a : ℕ). round f false a c) k)

pub minus_zero-add : (f : Format) (x : Float) → T (clear x) → add f minus_zero x ≡ add f plus_zero x
unfolding add
minus_zero-add f nan c = absurd c
minus_zero-add f (inf s) c = refl
minus_zero-add f (fin true n d) c = absurd c
minus_zero-add f (fin false n d) c = signless f (0 * down d) (n * up d * 1) (1 * down d) (zero-mul (down d))

-- to whatever it is added, a NaN and -0 too
pub add-minus_zero : (f : Format) (x : Float) → T (fits f x) → add f x minus_zero ≡ x
unfolding add sum neg
add-minus_zero f nan h = refl
add-minus_zero f (inf s) h = refl
add-minus_zero f (fin false m e) h = add-swap f (fin false m e) minus_zero ∙ minus_zero-add f (fin false m e) tt ∙ plus_zero-add f (fin false m e) h tt
add-minus_zero f (fin true m e) h = sym (neg-round f _ _) ∙ ap neg (add-plus_zero f (fin false m e) (neg-fits f (fin true m e) h) tt)

pub sub-plus_zero : (f : Format) (x : Float) → Held f x → sub f x plus_zero ≡ x
sub-plus_zero f x h = rounds-back x h (sub-rounds f x plus_zero h.at_least_zero tt (plus_zero-least x (nonneg→clear x h.at_least_zero))) (simp (mul-one, zero-mul, sub-zero))

-- ---- so a sum grows and a difference shrinks
pub add_right : (f : Format) (x y : Float) → T (fits f x) → T (clear x) → T (clear y) → T (le x (add f x y))
add_right f x y h c d =
    subst (λ (z : Float). T (le z (add f x y))) (add-plus_zero f x h c)
    (add-mono f x x plus_zero y c c tt d (le_refl x (clear→ordered x c)) (plus_zero-least y d))

pub add_left : (f : Format) (x y : Float) → T (fits f y) → T (clear x) → T (clear y) → T (le y (add f x y))
add_left f x y h c d =
    subst (λ (z : Float). T (le z (add f x y))) (plus_zero-add f y h d)
    (add-mono f plus_zero x y y tt c d d (plus_zero-least x c) (le_refl y (clear→ordered y d)))

pub sub-under : (f : Format) (x y : Float) → Held f x → T (nonneg y) → T (le y x) → T (le (sub f x y) x)
sub-under f x y h q k =
    let p = h.at_least_zero in
    subst (λ (z : Float). T (le (sub f x y) z)) (sub-plus_zero f x h)
    (sub-mono f x x y plus_zero p p q tt (le_refl x (nonneg→ordered x p)) (plus_zero-least y (nonneg→clear y q)) k)

-- ---- a part of a whole is at most 1
pub div-under-one : (f : Format) (x y : Float) → T (clear x) → T (positive y) → T (le x y) → T (le (div f x y) one)
div-under-one f x y c q h =
    let p = nonneg-under x y c (positive→nonneg y q) h in
    rounds-mono (div-rounds f x y p q) (held-rounds f one (one-held f))
    (subst₂ (λ (a b : ℕ). a ≤ b) (sym (mul-one (num x * den y))) (sym (one-mul (num y * den x))) (le→cross x y p (positive→nonneg y q) h))
  where
    one-held : (g : Format) → Held g one
    one-held binary32 = record { in_format = unfold fits in tt; at_least_zero = tt }
    one-held binary64 = record { in_format = unfold fits in tt; at_least_zero = tt }

-- ---- x - x
difference : (f : Format) (s : Bool) (a c : ℕ) → 0 < c → sum f s a (not s) a c ≡ plus_zero
unfolding sum
difference f s a c C =
    rw (unlike s, le-ltb a a (nat-refl a), and-false s, sub_self a) (rounds-back plus_zero (plus_zero-held f) (record { is = refl; some = C }) (simp (mul-one, zero-mul)))
  where
    unlike : (t : Bool) → beq t (not t) ≡ false
    unlike true = refl
    unlike false = refl

    and-false : (t : Bool) → t && false ≡ false
    and-false true = refl
    and-false false = refl

-- x - x is +0 for a finite x, and a NaN for any other
pub finite-test : (f : Format) (x : Float) → eq (sub f x x) plus_zero ≡ finite x
unfolding sub eq
finite-test f nan = refl
finite-test f (inf true) = refl
finite-test f (inf false) = refl
finite-test f (fin s m e) = ap (λ (z : Float). eq z plus_zero) (difference f s (m * up e * down e) (down e * down e) (mul-pos (down_pos e) (down_pos e)))
