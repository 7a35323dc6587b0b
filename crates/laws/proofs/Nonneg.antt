-- The values that are finite and have the sign plus, +0 and what is above it: sums, differences and quotients keep their order, in either format,
-- subnormal results and overflow to an infinity included. -0 is left out: no operation here makes it from such values.
use mathlib.Core.Path.{◌≡◌, refl, sym, ap, ◌∙◌, subst, subst₂}
use mathlib.Core.Logic.{◌⊎◌, inl, inr}
use Prim.Native.Nat.{ℕ, zero, suc, ◌+◌, ◌-◌, ◌*◌, ◌^◌, ◌≤◌, ◌<◌}
use native.Mathlib.Nat.{lt_of_not-le, le_trans, le_of_eq, not-le_of_lt, mul_comm, mul_assoc, mul_left_comm, mul-pos, mul-sub, add-mul, add-le-add, mul-le-mul, mul-le-mul_right, mul-mul-mul_comm}
use native.Mathlib.Omega.{arith}
use mathlib.Core.Bool.{Bool, true, false, cond}
use lib.IntN.{ℤ}
use lib.Dec.{T, ltb, eqb, ltb→lt, not_T, eqb→eq}
use lib.Ieee.{Float, nan, inf, fin, Format, prec, emax, low, up, down, odd, units, round, sum, add, sub, div, le, lt}
use lib.Ieee.Fits.{up_pos, down_pos, round_is}
use lib.Ieee.Bits.{cond_no}
use lib.Ieee.Order.{round_mono, le_of_values, kept, drop}
use lib.Ieee.Exact.{HasValue}
use lib.Ieee.Positive.{num, den, den_pos, positive}
use Rattle.laws.specs.Values.{ordered, clear, nonneg}
use Rattle.laws.proofs.Order.{lt_not_le, not-le→lt, le→cross-nat, le_trans as order_trans}

pub nonneg→ordered : (x : Float) → T (nonneg x) → T (ordered x)
nonneg→ordered nan p = p
nonneg→ordered (inf s) p = absurd p
nonneg→ordered (fin s m e) p = tt

pub clear→ordered : (x : Float) → T (clear x) → T (ordered x)
clear→ordered nan p = p
clear→ordered (inf s) p = tt
clear→ordered (fin s m e) p = tt

pub positive→nonneg : (x : Float) → T (positive x) → T (nonneg x)
positive→nonneg nan p = p
positive→nonneg (inf s) p = p
positive→nonneg (fin true m e) p = p
positive→nonneg (fin false m e) p = tt

-- a result under a finite value is finite
pub nonneg-under : (z hi : Float) → T (clear z) → T (nonneg hi) → T (le z hi) → T (nonneg z)
unfolding le
nonneg-under nan hi c p h = c
nonneg-under (inf true) hi c p h = c
nonneg-under (inf false) nan c p h = p
nonneg-under (inf false) (inf t) c p h = p
nonneg-under (inf false) (fin t n d) c p h = h
nonneg-under (fin s m e) hi c p h = c

pub nonneg→clear : (x : Float) → T (nonneg x) → T (clear x)
nonneg→clear nan p = p
nonneg→clear (inf s) p = absurd p
nonneg→clear (fin s m e) p = p

-- +∞ is the greatest, so the laws go by two cases: both values are finite, or the larger one is +∞
pub greatest : (z : Float) → T (clear z) → T (le z (inf false))
unfolding le
greatest nan c = c
greatest (inf true) c = absurd c
greatest (inf false) c = tt
greatest (fin s m e) c = tt

pub both-finite : (x y : Float) → T (clear x) → T (clear y) → T (le x y) → (T (nonneg x) × T (nonneg y)) ⊎ (y ≡ inf false)
unfolding le
both-finite nan y c d h = absurd c
both-finite (inf true) y c d h = absurd c
both-finite (inf false) nan c d h = absurd d
both-finite (inf false) (inf true) c d h = absurd d
both-finite (inf false) (inf false) c d h = inr refl
both-finite (inf false) (fin t n k) c d h = absurd h
both-finite (fin s m e) nan c d h = absurd d
both-finite (fin s m e) (inf true) c d h = absurd d
both-finite (fin s m e) (inf false) c d h = inr refl
both-finite (fin s m e) (fin t n k) c d h = inl (c, d)

-- ---- their order is that of the fractions num / den
pub own_value : (x : Float) → T (nonneg x) → HasValue x false (num x) (den x)
own_value nan p = absurd p
own_value (inf s) p = absurd p
own_value (fin true m e) p = absurd p
own_value (fin false m e) p = (refl, refl)

pub le→cross : (x y : Float) → T (nonneg x) → T (nonneg y) → T (le x y) → num x * den y ≤ num y * den x
unfolding le
le→cross nan y p q h = absurd p
le→cross (inf s) y p q h = absurd p
le→cross (fin true m e) y p q h = absurd p
le→cross (fin false m e) nan p q h = absurd q
le→cross (fin false m e) (inf t) p q h = absurd q
le→cross (fin false m e) (fin true n d) p q h = absurd q
le→cross (fin false m e) (fin false n d) p q h = le→cross-nat (m * up e * down d) (n * up d * down e) h

pub cross→le : (x y : Float) → T (nonneg x) → T (nonneg y) → num x * den y ≤ num y * den x → T (le x y)
cross→le x y p q h = le_of_values x y (num x) (den x) (num y) (den y) (den_pos x) (den_pos y) (own_value x p) (own_value y q) h

pub lt→cross : (x y : Float) → T (nonneg x) → T (nonneg y) → T (lt x y) → num x * den y < num y * den x
lt→cross x y p q h = lt_of_not-le (λ (g : num y * den x ≤ num x * den y). lt_not_le x y h (cross→le y x q p g))

pub cross→lt : (x y : Float) → T (nonneg x) → T (nonneg y) → num x * den y < num y * den x → T (lt x y)
cross→lt x y p q h = not-le→lt x y (nonneg→ordered x p) (nonneg→ordered y q) (not_T (le y x) (λ (g : T (le y x)). not-le_of_lt h (le→cross y x q p g)))

-- ---- a rounded fraction
odd-clear : (d q k l : ℕ) → T (clear (odd d false q k l))
unfolding odd
odd-clear d zero k l = tt
odd-clear d (suc q) k l = tt

units-clear : (f : Format) (q k : ℕ) → T (clear (units f false q k))
unfolding units
units-clear f q k = go (ltb (q * 2 ^ k) (2 ^ (low f + suc (emax f))))
  where
    go : (b : Bool) → T (clear (cond b (odd (suc (prec f)) false q k (low f)) (inf false)))
    go true = odd-clear (suc (prec f)) q k (low f)
    go false = tt

pub round-clear : (f : Format) (a c : ℕ) → T (clear (round f false a c))
round-clear f a c =
    let n = a * 2 ^ low f in
    subst (λ (z : Float). T (clear z)) (sym (round_is f false a c)) (units-clear f (kept (prec f) n c) (drop (prec f) n c))

-- x is the fraction a / c, rounded to the format f
pub record Rounds (f : Format) (x : Float) (a c : ℕ) : Type 0 where
  pub is : x ≡ round f false a c
  pub some : 0 < c

pub rounds-clear : {f : Format} {x : Float} {a c : ℕ} → Rounds f x a c → T (clear x)
rounds-clear {f} {x} {a} {c} r = subst (λ (z : Float). T (clear z)) (sym r.is) (round-clear f a c)

pub rounds-mono : {f : Format} {x y : Float} {a b c d : ℕ} → Rounds f x a b → Rounds f y c d → a * d ≤ c * b → T (le x y)
rounds-mono {f} {x} {y} {a} {b} {c} {d} r s h = subst₂ (λ (u v : Float). T (le u v)) (sym r.is) (sym s.is) (round_mono f a b c d r.some s.some h)

-- a / p ≤ c / q, with the denominators r and s besides
widen : (a p c q r s : ℕ) → a * q ≤ c * p → a * r * (q * s) ≤ c * s * (p * r)
widen a p c q r s h = le_trans (le_of_eq (mul-mul-mul_comm a r q s)) (le_trans (mul-le-mul_right (r * s) h) (le_of_eq (ap (λ (z : ℕ). c * p * z) (mul_comm r s) ∙ mul-mul-mul_comm c p s r)))

-- ---- the sum
pub add_rounds : (f : Format) (x y : Float) → T (nonneg x) → T (nonneg y) → Rounds f (add f x y) (num x * den y + num y * den x) (den x * den y)
unfolding add
add_rounds f nan y p q = absurd p
add_rounds f (inf s) y p q = absurd p
add_rounds f (fin true m e) y p q = absurd p
add_rounds f (fin false m e) nan p q = absurd q
add_rounds f (fin false m e) (inf t) p q = absurd q
add_rounds f (fin false m e) (fin true n d) p q = absurd q
add_rounds f (fin false m e) (fin false n d) p q = record { is = refl; some = mul-pos (down_pos e) (down_pos d) }

pub add-clear : (f : Format) (x y : Float) → T (clear x) → T (clear y) → T (clear (add f x y))
unfolding add
add-clear f nan y p q = absurd p
add-clear f (inf true) y p q = absurd p
add-clear f (inf false) nan p q = absurd q
add-clear f (inf false) (inf true) p q = absurd q
add-clear f (inf false) (inf false) p q = tt
add-clear f (inf false) (fin t n d) p q = tt
add-clear f (fin s m e) nan p q = absurd q
add-clear f (fin s m e) (inf t) p q = q
add-clear f (fin s m e) (fin t n d) p q = rounds-clear (add_rounds f (fin s m e) (fin t n d) p q)

pub add-inf-left : (f : Format) (y : Float) → T (clear y) → add f (inf false) y ≡ inf false
unfolding add
add-inf-left f nan q = absurd q
add-inf-left f (inf true) q = absurd q
add-inf-left f (inf false) q = refl
add-inf-left f (fin t n d) q = refl

pub add-inf-right : (f : Format) (x : Float) → T (clear x) → add f x (inf false) ≡ inf false
unfolding add
add-inf-right f nan p = absurd p
add-inf-right f (inf true) p = absurd p
add-inf-right f (inf false) p = refl
add-inf-right f (fin s m e) p = refl

grow : (a p c q b r d s : ℕ) → a * q ≤ c * p → b * s ≤ d * r → (a * r + b * p) * (q * s) ≤ (c * s + d * q) * (p * r)
grow a p c q b r d s h k =
    let u : a * r * (q * s) ≤ c * s * (p * r) = widen a p c q r s h in
    let v : b * p * (q * s) ≤ d * q * (p * r) = rw (mul_comm q s, mul_comm p r) (widen b r d s p q k) in
    rw (add-mul (a * r) (b * p) (q * s), add-mul (c * s) (d * q) (p * r)) (add-le-add u v)

pub add-mono : (f : Format) (x x' y y' : Float) → T (clear x) → T (clear x') → T (clear y) → T (clear y') → T (le x x') → T (le y y') → T (le (add f x y) (add f x' y'))
add-mono f x x' y y' p p' q q' h k = elim (both-finite x x' p p' h) [
  | inr e ↦ rw (e, add-inf-left f y' q') (greatest (add f x y) (add-clear f x y p q))
  | inl c ↦ elim (both-finite y y' q q' k) [
    | inr e ↦ rw (e, add-inf-right f x' p') (greatest (add f x y) (add-clear f x y p q))
    | inl d ↦
        rounds-mono (add_rounds f x y c.0 d.0) (add_rounds f x' y' c.1 d.1)
        (grow (num x) (den x) (num x') (den x') (num y) (den y) (num y') (den y') (le→cross x x' c.0 c.1 h) (le→cross y y' d.0 d.1 k))
  ]
]

-- ---- the difference x - y for y ≤ x
pick : (f : Format) (a b c : ℕ) → b ≤ a → sum f false a true b c ≡ round f false (a - b) c
unfolding sum
pick f a b c h = go (ltb a b) (ltb→lt a b)
  where
    go : (t : Bool) → (T t → a < b) → cond t (round f true (b - a) c) (round f false (a - b) c) ≡ round f false (a - b) c
    go true k = absurd (not-le_of_lt (k tt) h)
    go false k = refl

opened : (f : Format) (m : ℕ) (e : ℤ) (n : ℕ) (d : ℤ) → sub f (fin false m e) (fin false n d) ≡ sum f false (m * up e * down d) true (n * up d * down e) (down e * down d)
unfolding sub
opened f m e n d = refl

pub sub-rounds : (f : Format) (x y : Float) → T (nonneg x) → T (nonneg y) → T (le y x) → Rounds f (sub f x y) (num x * den y - num y * den x) (den x * den y)
sub-rounds f nan y p q h = absurd p
sub-rounds f (inf s) y p q h = absurd p
sub-rounds f (fin true m e) y p q h = absurd p
sub-rounds f (fin false m e) nan p q h = absurd q
sub-rounds f (fin false m e) (inf t) p q h = absurd q
sub-rounds f (fin false m e) (fin true n d) p q h = absurd q
sub-rounds f (fin false m e) (fin false n d) p q h =
    record { is = opened f m e n d ∙ pick f (m * up e * down d) (n * up d * down e) (down e * down d) (le→cross (fin false n d) (fin false m e) q p h); some = mul-pos (down_pos e) (down_pos d) }

pub sub-clear : (f : Format) (x y : Float) → T (nonneg x) → T (nonneg y) → T (le y x) → T (clear (sub f x y))
sub-clear f x y p q h = rounds-clear (sub-rounds f x y p q h)

less : (p q r s : ℕ) → p ≤ r → s ≤ q → p - q ≤ r - s
less p q r s h k = omega arith

pub sub-mul : (a b k : ℕ) → (a - b) * k ≡ a * k - b * k
sub-mul a b k = mul_comm (a - b) k ∙ mul-sub k a b ∙ ap (λ (z : ℕ). z - k * b) (mul_comm k a) ∙ ap (λ (z : ℕ). a * k - z) (mul_comm k b)

shrink : (a p c q b r d s : ℕ) → a * q ≤ c * p → d * r ≤ b * s → (a * r - b * p) * (q * s) ≤ (c * s - d * q) * (p * r)
shrink a p c q b r d s h k =
    let u : a * r * (q * s) ≤ c * s * (p * r) = widen a p c q r s h in
    let v : d * q * (p * r) ≤ b * p * (q * s) = rw (mul_comm q s, mul_comm p r) (widen d s b r q p k) in
    rw (sub-mul (a * r) (b * p) (q * s), sub-mul (c * s) (d * q) (p * r)) (less (a * r * (q * s)) (b * p * (q * s)) (c * s * (p * r)) (d * q * (p * r)) u v)

-- x grows or y shrinks
pub sub-mono : (f : Format) (x x' y y' : Float) → T (nonneg x) → T (nonneg x') → T (nonneg y) → T (nonneg y') → T (le x x') → T (le y' y) → T (le y x) → T (le (sub f x y) (sub f x' y'))
sub-mono f x x' y y' p p' q q' h k l =
    rounds-mono (sub-rounds f x y p q l) (sub-rounds f x' y' p' q' (order_trans y' y x' k (order_trans y x x' l h)))
    (shrink (num x) (den x) (num x') (den x') (num y) (den y) (num y') (den y') (le→cross x x' p p' h) (le→cross y' y q' q k))

-- ---- the quotient by a value above zero
pub div-rounds : (f : Format) (x y : Float) → T (nonneg x) → T (positive y) → Rounds f (div f x y) (num x * den y) (num y * den x)
unfolding div
div-rounds f nan y p q = absurd p
div-rounds f (inf s) y p q = absurd p
div-rounds f (fin true m e) y p q = absurd p
div-rounds f (fin false m e) nan p q = absurd q
div-rounds f (fin false m e) (inf t) p q = absurd q
div-rounds f (fin false m e) (fin true n d) p q = absurd q
div-rounds f (fin false m e) (fin false n d) p q =
    record {
      is = cond_no (eqb n 0) (cond (eqb m 0) nan (inf false)) (round f false (m * up e * down d) (n * up d * down e)) (not_T (eqb n 0) (λ (z : T (eqb n 0)). not-zero n (ltb→lt 0 n q) (eqb→eq n 0 z)));
      some = mul-pos (mul-pos (ltb→lt 0 n q) (up_pos d)) (down_pos e);
    }
  where
    not-zero : (a : ℕ) → 0 < a → a ≡ 0 → ⊥
    not-zero a h e = omega arith

div-inf : (f : Format) (y : Float) → T (positive y) → div f (inf false) y ≡ inf false
unfolding div
div-inf f nan q = absurd q
div-inf f (inf t) q = absurd q
div-inf f (fin true n d) q = absurd q
div-inf f (fin false n d) q = refl

pub div-clear : (f : Format) (x y : Float) → T (clear x) → T (positive y) → T (clear (div f x y))
div-clear f nan y p q = absurd p
div-clear f (inf true) y p q = absurd p
div-clear f (inf false) y p q = rw (div-inf f y q) tt
div-clear f (fin s m e) y p q = rounds-clear (div-rounds f (fin s m e) y p q)

cross : (a p c q b r d s : ℕ) → a * q ≤ c * p → d * r ≤ b * s → a * r * (d * q) ≤ c * s * (b * p)
cross a p c q b r d s h k = simp (mul_assoc, mul_comm, mul_left_comm) (simp (mul_assoc, mul_comm) at (mul-le-mul h k))

-- x grows or y shrinks
pub div_mono : (f : Format) (x x' y y' : Float) → T (clear x) → T (clear x') → T (positive y) → T (positive y') → T (le x x') → T (le y' y) → T (le (div f x y) (div f x' y'))
div_mono f x x' y y' p p' q q' h k = elim (both-finite x x' p p' h) [
  | inr e ↦ rw (e, div-inf f y' q') (greatest (div f x y) (div-clear f x y p q))
  | inl c ↦
      rounds-mono (div-rounds f x y c.0 q) (div-rounds f x' y' c.1 q')
      (cross (num x) (den x) (num x') (den x') (num y) (den y) (num y') (den y') (le→cross x x' c.0 c.1 h) (le→cross y' y (positive→nonneg y' q') (positive→nonneg y q) k))
]
