-- The order of the values that are no NaN, of either sign and with both infinities: `le` is reflexive, transitive and total, and `lt` is the
-- other side of `le`. Nothing is asked of a value but where a NaN would break the law.
use mathlib.Core.Path.{◌≡◌, sym, subst₂}
use mathlib.Core.Logic.{◌⊎◌, inl, inr}
use Prim.Native.Nat.{ℕ, ◌+◌, ◌*◌, ◌≤◌, ◌<◌, zero-le}
use native.Mathlib.Nat.{le_refl as nat-refl, le_of_eq, le_of_lt, le_antisymm, mul_right_comm, add-mul, zero-mul, mul-le-mul_right, le_of_mul-le-mul_right}
use native.Mathlib.Omega.{arith}
use mathlib.Core.Bool.{Bool, true, false, not, ◌&&◌, ◌||◌}
use lib.Dec.{T, ltb, eqb, eqb→eq, ltb→lt, nltb→le, not_T, T_not}
use lib.Ieee.{Float, nan, inf, fin, up, down, below, level, lt, eq, le, neg}
use lib.Ieee.Fits.{down_pos, and_l, and_r, and_i, eq→eqb}
use Rattle.laws.specs.Values.{ordered, negative, clear}
use Rattle.laws.proofs.Cases.{or_l, or_split}

-- ---- ±a ≤ ±b, as a statement on naturals
abbrev Under : Bool → ℕ → Bool → ℕ → Type 0
Under false a false b = a ≤ b
Under false a true b = a + b ≤ 0
Under true a false b = 0 ≤ a + b
Under true a true b = b ≤ a

under-trans : (s : Bool) (a : ℕ) (t : Bool) (b : ℕ) (u : Bool) (c : ℕ) → Under s a t b → Under t b u c → Under s a u c
under-trans false a false b false c h k = omega arith
under-trans false a false b true c h k = omega arith
under-trans false a true b false c h k = omega arith
under-trans false a true b true c h k = omega arith
under-trans true a false b false c h k = omega arith
under-trans true a false b true c h k = omega arith
under-trans true a true b false c h k = omega arith
under-trans true a true b true c h k = omega arith

-- the order of two fractions does not change with their denominator
scale : (k : ℕ) (s : Bool) (a : ℕ) (t : Bool) (b : ℕ) → Under s a t b → Under s (a * k) t (b * k)
scale k false a false b h = mul-le-mul_right k h
scale k false a true b h = subst₂ (λ (x y : ℕ). x ≤ y) (add-mul a b k) (zero-mul k) (mul-le-mul_right k h)
scale k true a false b h = omega arith
scale k true a true b h = mul-le-mul_right k h

unscale : (k : ℕ) (s : Bool) (a : ℕ) (t : Bool) (b : ℕ) → 0 < k → Under s (a * k) t (b * k) → Under s a t b
unscale k false a false b K h = le_of_mul-le-mul_right h K
unscale k false a true b K h = le_of_mul-le-mul_right (subst₂ (λ (x y : ℕ). x ≤ y) (sym (add-mul a b k)) (sym (zero-mul k)) h) K
unscale k true a false b K h = omega arith
unscale k true a true b K h = le_of_mul-le-mul_right h K

-- ---- `below` and `level` say `Under`
meet : (a b : ℕ) → T (eqb a b && (false || eqb a 0)) → a + b ≤ 0
meet a b t = let p : a ≡ b = eqb→eq a b (and_l (eqb a b) (eqb a 0) t) in let q : a ≡ 0 = eqb→eq a 0 (and_r (eqb a b) (eqb a 0) t) in omega arith

pub le→cross-nat : (a b : ℕ) → T (below false a false b || level false a false b) → a ≤ b
le→cross-nat a b h = elim (or_split (ltb a b) (eqb a b && true) h) [ inl u ↦ le_of_lt (ltb→lt a b u) | inr u ↦ le_of_eq (eqb→eq a b (and_l (eqb a b) true u)) ]

le→under : (s : Bool) (a : ℕ) (t : Bool) (b : ℕ) → T (below s a t b || level s a t b) → Under s a t b
le→under false a false b h = le→cross-nat a b h
le→under false a true b h = meet a b h
le→under true a false b h = omega arith
le→under true a true b h = elim (or_split (ltb b a) (eqb a b && true) h) [ inl u ↦ le_of_lt (ltb→lt b a u) | inr u ↦ le_of_eq (sym (eqb→eq a b (and_l (eqb a b) true u))) ]

-- a test that passes makes `||` pass, and one that fails leaves the other
or_else : (a b : Bool) → (T (not a) → T b) → T (a || b)
or_else true b k = tt
or_else false b k = k tt

same : (a b : ℕ) → a ≤ b → b ≤ a → T (eqb a b && true)
same a b h k = and_i (eqb a b) true (eq→eqb (le_antisymm h k)) tt

zeros : (a b : ℕ) → a + b ≤ 0 → T (eqb a b && (false || eqb a 0))
zeros a b h = let p : a ≡ b = omega arith in let q : a ≡ 0 = omega arith in and_i (eqb a b) (eqb a 0) (eq→eqb p) (eq→eqb q)

under→le : (s : Bool) (a : ℕ) (t : Bool) (b : ℕ) → Under s a t b → T (below s a t b || level s a t b)
under→le false a false b h = or_else (ltb a b) (eqb a b && true) (λ (n : T (not (ltb a b))). same a b h (nltb→le a b n))
under→le false a true b h = zeros a b h
under→le true a false b h = or_else (ltb 0 (a + b)) (eqb a b && (false || eqb a 0)) (λ (n : T (not (ltb 0 (a + b)))). zeros a b (nltb→le 0 (a + b) n))
under→le true a true b h = or_else (ltb b a) (eqb a b && true) (λ (n : T (not (ltb b a))). same a b (nltb→le b a n) h)

not-below→under : (s : Bool) (a : ℕ) (t : Bool) (b : ℕ) → T (not (below s a t b)) → Under t b s a
not-below→under false a false b h = nltb→le a b h
not-below→under false a true b h = omega arith
not-below→under true a false b h = omega (arith, nltb→le 0 (a + b) h)
not-below→under true a true b h = nltb→le b a h

below-not-under : (s : Bool) (a : ℕ) (t : Bool) (b : ℕ) → T (below s a t b) → Under t b s a → ⊥
below-not-under false a false b h k = omega (arith, ltb→lt a b h)
below-not-under false a true b h k = absurd h
below-not-under true a false b h k = omega (arith, ltb→lt 0 (a + b) h)
below-not-under true a true b h k = omega (arith, ltb→lt b a h)

-- ---- the laws
pub le_refl : (x : Float) → T (ordered x) → T (le x x)
unfolding le
le_refl nan o = o
le_refl (inf true) o = tt
le_refl (inf false) o = tt
le_refl (fin true m e) o = under→le true (m * up e * down e) true (m * up e * down e) (nat-refl (m * up e * down e))
le_refl (fin false m e) o = under→le false (m * up e * down e) false (m * up e * down e) (nat-refl (m * up e * down e))

pub lt→le : (x y : Float) → T (lt x y) → T (le x y)
unfolding le
lt→le x y h = or_l (lt x y) (eq x y) h

-- the test `x < y` failed
pub not-lt→le : (x y : Float) → T (ordered x) → T (ordered y) → T (not (lt x y)) → T (le y x)
unfolding le
not-lt→le nan y o p h = absurd o
not-lt→le (inf s) nan o p h = absurd p
not-lt→le (inf true) (inf true) o p h = tt
not-lt→le (inf true) (inf false) o p h = absurd h
not-lt→le (inf false) (inf true) o p h = tt
not-lt→le (inf false) (inf false) o p h = tt
not-lt→le (inf true) (fin t n d) o p h = absurd h
not-lt→le (inf false) (fin t n d) o p h = tt
not-lt→le (fin s m e) nan o p h = absurd p
not-lt→le (fin s m e) (inf true) o p h = tt
not-lt→le (fin s m e) (inf false) o p h = absurd h
not-lt→le (fin s m e) (fin t n d) o p h = under→le t (n * up d * down e) s (m * up e * down d) (not-below→under s (m * up e * down d) t (n * up d * down e) h)

-- the two tests exclude each other
pub lt_not_le : (x y : Float) → T (lt x y) → T (le y x) → ⊥
unfolding le
lt_not_le nan y h k = h
lt_not_le (inf s) nan h k = h
lt_not_le (inf true) (inf true) h k = h
lt_not_le (inf true) (inf false) h k = k
lt_not_le (inf false) (inf t) h k = h
lt_not_le (inf true) (fin t n d) h k = k
lt_not_le (inf false) (fin t n d) h k = h
lt_not_le (fin s m e) nan h k = h
lt_not_le (fin s m e) (inf true) h k = h
lt_not_le (fin s m e) (inf false) h k = k
lt_not_le (fin s m e) (fin t n d) h k = below-not-under s (m * up e * down d) t (n * up d * down e) h (le→under t (n * up d * down e) s (m * up e * down d) k)

-- three fractions ±a/p ≤ ±b/q ≤ ±c/r
through : (s : Bool) (a p : ℕ) (t : Bool) (b q : ℕ) (u : Bool) (c r : ℕ) → 0 < q → Under s (a * q) t (b * p) → Under t (b * r) u (c * q) → Under s (a * r) u (c * p)
through s a p t b q u c r Q h k =
    unscale q s (a * r) u (c * p) Q
    (under-trans s (a * r * q) t (b * p * r) u (c * p * q)
    (rw (mul_right_comm a r q) (scale r s (a * q) t (b * p) h))
    (rw (mul_right_comm b p r, mul_right_comm c p q) (scale p t (b * r) u (c * q) k)))

-- what stands in an order is no NaN
pub le_right : (x y : Float) → T (le x y) → T (ordered y)
unfolding le
le_right nan y h = absurd h
le_right (inf s) nan h = h
le_right (inf s) (inf t) h = tt
le_right (inf s) (fin t n d) h = tt
le_right (fin s m e) nan h = h
le_right (fin s m e) (inf t) h = tt
le_right (fin s m e) (fin t n d) h = tt

pub le_left : (x y : Float) → T (le x y) → T (ordered x)
unfolding le
le_left nan y h = h
le_left (inf s) y h = tt
le_left (fin s m e) y h = tt

least : (z : Float) → T (ordered z) → T (le (inf true) z)
unfolding le
least nan o = o
least (inf true) o = tt
least (inf false) o = tt
least (fin u o g) p = tt

pub le_trans : (x y z : Float) → T (le x y) → T (le y z) → T (le x z)
unfolding le
le_trans nan y z h k = absurd h
le_trans (inf true) y z h k = least z (le_right y z k)
le_trans (inf false) nan z h k = absurd h
le_trans (inf false) (inf true) z h k = absurd h
le_trans (inf false) (inf false) z h k = k
le_trans (inf false) (fin t n d) z h k = absurd h
le_trans (fin s m e) nan z h k = absurd h
le_trans (fin s m e) (inf true) z h k = absurd h
le_trans (fin s m e) (inf false) nan h k = absurd k
le_trans (fin s m e) (inf false) (inf true) h k = absurd k
le_trans (fin s m e) (inf false) (inf false) h k = tt
le_trans (fin s m e) (inf false) (fin u o g) h k = absurd k
le_trans (fin s m e) (fin t n d) nan h k = absurd k
le_trans (fin s m e) (fin t n d) (inf u) h k = k
le_trans (fin s m e) (fin t n d) (fin u o g) h k =
    under→le s (m * up e * down g) u (o * up g * down e)
    (through s (m * up e) (down e) t (n * up d) (down d) u (o * up g) (down g) (down_pos d)
    (le→under s (m * up e * down d) t (n * up d * down e) h)
    (le→under t (n * up d * down g) u (o * up g * down d) k))

-- ---- what follows from these
pub le_total : (x y : Float) → T (ordered x) → T (ordered y) → T (le x y) ⊎ T (le y x)
le_total x y o p = go (lt x y) (lt→le x y) (not-lt→le x y o p)
  where
    go : (b : Bool) → (T b → T (le x y)) → (T (not b) → T (le y x)) → T (le x y) ⊎ T (le y x)
    go true h k = inl (h tt)
    go false h k = inr (k tt)

-- the test `x <= y` failed
pub not-le→lt : (x y : Float) → T (ordered x) → T (ordered y) → T (not (le y x)) → T (lt x y)
not-le→lt x y o p n = go (lt x y) (not-lt→le x y o p)
  where
    go : (b : Bool) → (T (not b) → T (le y x)) → T b
    go true k = tt
    go false k = T_not (le y x) n (k tt)

pub le→not-lt : (x y : Float) → T (le x y) → T (not (lt y x))
le→not-lt x y h = not_T (lt y x) (λ (k : T (lt y x)). lt_not_le y x k h)

pub lt_of_le_of_lt : (x y z : Float) → T (le x y) → T (lt y z) → T (lt x z)
lt_of_le_of_lt x y z h k =
    not-le→lt x z (le_left x y h) (le_right y z (lt→le y z k)) (not_T (le z x) (λ (n : T (le z x)). lt_not_le y z k (le_trans z x y n h)))

pub lt_of_lt_of_le : (x y z : Float) → T (lt x y) → T (le y z) → T (lt x z)
lt_of_lt_of_le x y z h k =
    not-le→lt x z (le_left x y (lt→le x y h)) (le_right y z k) (not_T (le z x) (λ (n : T (le z x)). lt_not_le x y h (le_trans y z x k n)))

-- the order turns round with the sign
under_flip : (s : Bool) (a : ℕ) (t : Bool) (b : ℕ) → Under s a t b → Under (not t) b (not s) a
under_flip false a false b h = h
under_flip false a true b h = omega arith
under_flip true a false b h = omega arith
under_flip true a true b h = h

pub le-neg : (x y : Float) → T (le x y) → T (le (neg y) (neg x))
unfolding le neg
le-neg nan y h = absurd h
le-neg (inf s) nan h = absurd h
le-neg (inf true) (inf true) h = tt
le-neg (inf true) (inf false) h = tt
le-neg (inf false) (inf true) h = absurd h
le-neg (inf false) (inf false) h = tt
le-neg (inf true) (fin t n d) h = tt
le-neg (inf false) (fin t n d) h = absurd h
le-neg (fin s m e) nan h = absurd h
le-neg (fin s m e) (inf true) h = absurd h
le-neg (fin s m e) (inf false) h = tt
le-neg (fin s m e) (fin t n d) h =
    let a = m * up e * down d in
    let b = n * up d * down e in
    under→le (not t) b (not s) a (under_flip s a t b (le→under s a t b h))

pub apart-le : (x y : Float) → T (negative x) → T (clear y) → T (le x y)
unfolding le
apart-le nan y n c = absurd n
apart-le (inf true) nan n c = absurd c
apart-le (inf true) (inf true) n c = absurd c
apart-le (inf true) (inf false) n c = tt
apart-le (inf true) (fin t o g) n c = tt
apart-le (inf false) y n c = absurd n
apart-le (fin true m e) nan n c = absurd c
apart-le (fin true m e) (inf true) n c = absurd c
apart-le (fin true m e) (inf false) n c = tt
apart-le (fin true m e) (fin true o g) n c = absurd c
apart-le (fin true m e) (fin false o g) n c = under→le true (m * up e * down g) false (o * up g * down e) zero-le
apart-le (fin false m e) y n c = absurd n
