-- The values that are finite with the sign clear and that the format holds: equal numbers are equal data, such a value rounds to itself,
-- and half of twice it is it again, below 2 ^ emax.
use mathlib.Core.Path.{◌≡◌, sym, ap, ◌∙◌, subst, subst₂}
use Prim.Native.Nat.{ℕ, zero, suc, ◌+◌, ◌-◌, ◌*◌, ◌/◌, ◌%◌, ◌^◌, ◌≤◌, ◌<◌}
use native.Mathlib.Nat.{le_trans, mul-le-mul_right, le_of_eq, le_antisymm, le_of_suc-le-suc, lt_of_lt_of_le, lt_of_not-le, not-le_of_lt, zero-mul, mul-one, one-mul, mul_comm, mul_assoc, mul_left_comm, mul_right_comm, mul-pos, add-mul, pow-suc, mul-lt-mul_of_pos_right, lt_of_mul-lt-mul_right, eq_of_mul-eq-mul_right, sub-add_cancel}
use native.Mathlib.Omega.{arith}
use mathlib.Core.Bool.{Bool, true, false, ◌&&◌, true≢false}
use lib.IntN.{ℤ, pos, negsuc}
use lib.Dec.{T, ltb, leb, eqb, ltb→lt, leb→le, eqb→eq}
use lib.Pow.{pow-add, pow_pos, pow-lt}
use lib.Ieee.{Float, nan, inf, fin, Format, prec, emax, low, up, down, round, add, le, lt, fits, to_bits}
use lib.Ieee.Fits.{up_pos, and_l, and_r, down_pos, round-fits, add-fits}
use lib.Ieee.Nearest.{div_same}
use lib.Ieee.Exact.{HasValue, round_exact}
use lib.Ieee.Scale.{round_same}
use lib.Ieee.Positive.{num, den, den_pos, value→cross}
use Rattle.laws.specs.Convert.{half}
use Rattle.laws.specs.Values.{nonneg, two, Held, small}
use Rattle.laws.proofs.Patterns.{pattern, written, known-by-bits}
use Rattle.laws.proofs.Nonneg.{Rounds, le→cross, add_rounds, div-rounds}

-- ---- equal numbers are equal data
pub bits_are : (f : Format) (x : Float) → T (nonneg x) → to_bits f x ≡ pattern f (num x * 2 ^ low f / den x)
bits_are f nan p = absurd p
bits_are f (inf s) p = absurd p
bits_are f (fin true m e) p = absurd p
bits_are f (fin false m e) p = written f m e

pub held_same : (f : Format) (x y : Float) → Held f x → Held f y → num x * den y ≡ num y * den x → x ≡ y
held_same f x y h k e =
    let l = 2 ^ low f in
    let units : num x * l * den y ≡ num y * l * den x = mul_right_comm (num x) l (den y) ∙ ap (λ (z : ℕ). z * l) e ∙ mul_right_comm (num y) (den x) l in
    known-by-bits f x y h.in_format k.in_format
    (bits_are f x h.at_least_zero ∙ ap (pattern f) (div_same (num x * l) (den x) (num y * l) (den y) (den_pos x) (den_pos y) units) ∙ sym (bits_are f y k.at_least_zero))

pub le_antisym : (f : Format) (x y : Float) → Held f x → Held f y → T (le x y) → T (le y x) → x ≡ y
le_antisym f x y h k a b = held_same f x y h k (le_antisymm (le→cross x y h.at_least_zero k.at_least_zero a) (le→cross y x k.at_least_zero h.at_least_zero b))

-- ---- what `fits` says of a finite value
pub record Fitting (f : Format) (m : ℕ) (e : ℤ) : Type 0 where
  pub few : m < 2 ^ prec f
  pub fine : down e ≤ 2 ^ low f
  pub room : m * up e < 2 ^ suc (emax f) * down e

pub fitting : (f : Format) (s : Bool) (m : ℕ) (e : ℤ) → T (fits f (fin s m e)) → Fitting f m e
unfolding fits
fitting f s zero e h = record {
  few = pow_pos (prec f);
  fine = le_trans (le_trans (le_of_eq (sym (one-mul (down e)))) (le_trans (mul-le-mul_right (down e) (up_pos e)) (le_of_eq (eqb→eq (up e * down e) 1 h)))) (pow_pos (low f));
  room = subst (λ (a : ℕ). a < 2 ^ suc (emax f) * down e) (sym (zero-mul (up e))) (mul-pos (pow_pos (suc (emax f))) (down_pos e));
}
fitting f s (suc m) e h =
    let a = eqb (suc m % 2) 1 in
    let b = ltb (suc m) (2 ^ prec f) in
    let c = leb (down e) (2 ^ low f) in
    let d = ltb (suc m * up e) (2 ^ suc (emax f) * down e) in
    record {
      few = ltb→lt (suc m) (2 ^ prec f) (and_r a b (and_l (a && b) c (and_l (a && b && c) d h)));
      fine = leb→le (down e) (2 ^ low f) (and_r (a && b) c (and_l (a && b && c) d h));
      room = ltb→lt (suc m * up e) (2 ^ suc (emax f) * down e) (and_r (a && b && c) d h);
    }

-- ---- a held value in units of the format's smallest value: q * 2 ^ j of them, with a q that the format can hold
pub record InUnits (f : Format) (a c : ℕ) : Type 0 where
  pub q : ℕ
  pub j : ℕ
  pub short : q < 2 ^ prec f
  pub equal : a * 2 ^ low f ≡ q * 2 ^ j * c

exponent : (e : ℤ) (l : ℕ) → down e ≤ 2 ^ l → (j : ℕ) × (up e * 2 ^ l ≡ 2 ^ j * down e)
exponent (pos k) l h = (k + l, sym (pow-add 2 k l) ∙ sym (mul-one (2 ^ (k + l))))
exponent (negsuc k) l h =
    let fine : suc k ≤ l = le_of_suc-le-suc (lt_of_not-le (λ (g : suc l ≤ suc k). not-le_of_lt (pow-lt g) h)) in
    (l - suc k, one-mul (2 ^ l) ∙ ap (λ (z : ℕ). 2 ^ z) (sym (sub-add_cancel fine)) ∙ pow-add 2 (l - suc k) (suc k))

pub fits-units : (f : Format) (x : Float) → T (nonneg x) → T (fits f x) → InUnits f (num x) (den x)
fits-units f nan p t = absurd p
fits-units f (inf s) p t = absurd p
fits-units f (fin s m e) p t =
    let fit = fitting f s m e t in
    let whole = exponent e (low f) fit.fine in
    record {
      q = m;
      j = whole.0;
      short = fit.few;
      equal = mul_assoc m (up e) (2 ^ low f) ∙ ap (λ (z : ℕ). m * z) whole.1 ∙ sym (mul_assoc m (2 ^ whole.0) (down e));
    }

pub fits-room : (f : Format) (x : Float) → T (nonneg x) → T (fits f x) → num x < 2 ^ suc (emax f) * den x
fits-room f nan p t = absurd p
fits-room f (inf s) p t = absurd p
fits-room f (fin s m e) p t = (fitting f s m e t).room

-- below the overflow there are fewer units than it has
pub units-room : {f : Format} {a c : ℕ} (u : InUnits f a c) → a < 2 ^ suc (emax f) * c → u.q * 2 ^ u.j < 2 ^ (low f + suc (emax f))
units-room {f} {a} {c} u h =
    lt_of_mul-lt-mul_right c
    (subst (λ (z : ℕ). z < 2 ^ (low f + suc (emax f)) * c) u.equal
    (lt_of_lt_of_le (mul-lt-mul_of_pos_right h (pow_pos (low f)))
    (le_of_eq (mul_right_comm (2 ^ suc (emax f)) c (2 ^ low f) ∙ ap (λ (z : ℕ). z * c) (mul_comm (2 ^ suc (emax f)) (2 ^ low f) ∙ sym (pow-add 2 (low f) (suc (emax f))))))))

-- ---- a fraction that is so many units, below the overflow, is not changed by rounding
pub exact : (f : Format) (a c : ℕ) → 0 < c → InUnits f a c → a < 2 ^ suc (emax f) * c → HasValue (round f false a c) false a c
exact f a c C u h = round_exact f false a c u.q u.j C u.short (units-room u h) u.equal

pub value-nonneg : (x : Float) (a c : ℕ) → HasValue x false a c → T (nonneg x)
value-nonneg nan a c v = v
value-nonneg (inf s) a c v = v
value-nonneg (fin true m e) a c v = true≢false v.0
value-nonneg (fin false m e) a c v = tt

-- a held value rounds to itself
pub held-rounds : (f : Format) (x : Float) → Held f x → Rounds f x (num x) (den x)
held-rounds f x h =
    let v = exact f (num x) (den x) (den_pos x) (fits-units f x h.at_least_zero h.in_format) (fits-room f x h.at_least_zero h.in_format) in
    let r = round f false (num x) (den x) in
    record {
      is = sym (held_same f r x (record { in_format = round-fits f false (num x) (den x); at_least_zero = value-nonneg r (num x) (den x) v }) h (value→cross r (num x) (den x) v));
      some = den_pos x;
    }

-- what rounds a fraction equal to a held value is that value
pub rounds-back : {f : Format} {z : Float} {a c : ℕ} (x : Float) → Held f x → Rounds f z a c → a * den x ≡ num x * c → z ≡ x
rounds-back {f} {z} {a} {c} x h r e = r.is ∙ round_same f false a c (num x) (den x) r.some (den_pos x) e ∙ sym (held-rounds f x h).is

-- ---- twice and half
small→cross : (f : Format) (x : Float) → T (nonneg x) → T (small f x) → num x < 2 ^ emax f * den x
unfolding lt
small→cross f nan p t = absurd p
small→cross f (inf s) p t = absurd p
small→cross f (fin true m e) p t = absurd p
small→cross f (fin false m e) p t =
    subst₂ (λ (x y : ℕ). x < y) (mul-one (m * up e)) (ap (λ (z : ℕ). z * down e) (one-mul (2 ^ emax f))) (ltb→lt (m * up e * 1) (1 * 2 ^ emax f * down e) t)

-- with n / d for x: twice it in units, that it stays below the overflow, and its half
twice-units : (n d l q k : ℕ) → n * l ≡ q * k * d → (n * d + n * d) * l ≡ q * (k * 2) * (d * d)
twice-units n d l q k e =
    let once : n * d * l ≡ q * k * (d * d) = mul_right_comm n d l ∙ ap (λ (z : ℕ). z * d) e ∙ mul_assoc (q * k) d d in
    let both : q * (k * 2) * (d * d) ≡ q * k * (d * d) * 2 = simp (mul_assoc, mul_comm, mul_left_comm) in
    let split : (n * d + n * d) * l ≡ n * d * l + n * d * l = add-mul (n * d) (n * d) l in
    omega arith

twice-room : (n d p : ℕ) → 0 < d → n < p * d → n * d + n * d < p * 2 * (d * d)
twice-room n d p D h =
    let once : n * d < p * d * d = mul-lt-mul_of_pos_right h D in
    let both : p * 2 * (d * d) ≡ p * d * d * 2 = simp (mul_assoc, mul_comm, mul_left_comm) in
    omega arith

halved : (n d a c : ℕ) → 0 < d → a * (d * d) ≡ (n * d + n * d) * c → a * 1 * d ≡ n * (2 * c)
halved n d a c D e =
    let left : a * 1 * d * d ≡ a * (d * d) = ap (λ (z : ℕ). z * d * d) (mul-one a) ∙ mul_assoc a d d in
    let right : n * (2 * c) * d ≡ n * d * c * 2 = simp (mul_assoc, mul_comm, mul_left_comm) in
    let split : (n * d + n * d) * c ≡ n * d * c + n * d * c = add-mul (n * d) (n * d) c in
    let same : a * 1 * d * d ≡ n * (2 * c) * d = omega arith in
    eq_of_mul-eq-mul_right d D (a * 1 * d) (n * (2 * c)) same

module _ (f : Format) (x : Float) (h : Held f x) (s : T (small f x)) where
  double-value : HasValue (add f x x) false (num x * den x + num x * den x) (den x * den x)
  double-value =
      let p = h.at_least_zero in
      let u = fits-units f x p h.in_format in
      let a = num x * den x + num x * den x in
      let c = den x * den x in
      subst (λ (z : Float). HasValue z false a c) (sym (add_rounds f x x p p).is)
      (exact f a c (mul-pos (den_pos x) (den_pos x))
      (record { q = u.q; j = suc u.j; short = u.short; equal = rw (pow-suc 2 u.j) (twice-units (num x) (den x) (2 ^ low f) u.q (2 ^ u.j) u.equal) })
      (rw (pow-suc 2 (emax f)) (twice-room (num x) (den x) (2 ^ emax f) (den_pos x) (small→cross f x p s))))

  pub double-held : Held f (add f x x)
  double-held = record { in_format = add-fits f x x; at_least_zero = value-nonneg (add f x x) (num x * den x + num x * den x) (den x * den x) double-value }

  pub half-double : half f (add f x x) ≡ x
  half-double =
      let z = add f x x in
      rounds-back x h (div-rounds f z two double-held.at_least_zero tt)
      (halved (num x) (den x) (num z) (den z) (den_pos x) (value→cross z (num x * den x + num x * den x) (den x * den x) double-value))
