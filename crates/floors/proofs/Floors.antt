-- The whole number at or below a float, from the whole part of its size.
use Rattle.std.proofs.Common.{◌≡◌, ℕ, suc, ◌+◌, ◌*◌, ◌/◌, ◌%◌, ◌^◌, ◌<◌, ◌≤◌, Bool, true, false, cond, ◌&&◌, T, eqb, ℤ, pos, negsuc, sym, refl, ap, ◌∙◌, subst, true≢false, le_trans, le_of_lt, div-lt_iff_lt-mul, div-add-mod', mul-one, mul_right_comm, add-one, arith, lit≤, eqb→eq, pow_pos, eq-eqb, eqb-true}
use native.Mathlib.Nat.{mod-one, pow-succ', eq_of_mul-eq-mul_right}
use mathlib.Core.Bool.{false≢true}
use lib.Ieee.{Float, nan, inf, fin, binary32, up, down, fits, is_nan, lt, le, eq, neg, round, of_int}
use lib.Ieee.Fits.{and_i, and_l, eq→eqb, down_pos}
use lib.Ieee.Exact.{HasValue}
use lib.Ieee.Back.{round_whole}
use Rattle.laws.specs.Values.{negative, magnitude_of}
use Rattle.laws.proofs.Cases.{same_test}
use Rattle.laws.proofs.Signs.{nan_is, neg-round}
use Rattle.laws.proofs.Nonneg.{le→cross}
use Rattle.laws.proofs.Held.{fitting}
use Rattle.laws.proofs.Cuts.{power_of_two, Under, under, cut_of, cut-is, may-cut as cuts, cut_small as cut-under}
use Rattle.floors.specs.Floor.{floored, down_to}
use Rattle.laws.proofs.Table.{told}

-- 2^23, from which on every binary32 value is whole
abbrev pub limit : Float
limit = power_of_two 23

-- ---- from 2^23 on
-- m < 2^24 and 2^23 ≤ m / 2^(k + 1) do not go together
no_room : (m h : ℕ) → m < 16777216 → 0 < h → 8388608 * (2 * h) ≤ m * 1 → ⊥
no_room m h a b c = omega arith

pub big-whole : (m : ℕ) (e : ℤ) → m < 2 ^ 24 → 1 * 2 ^ 23 * down e ≤ m * up e * 1 → m * up e % down e ≡ 0
big-whole m (pos k) a h = mod-one (m * 2 ^ k)
big-whole m (negsuc k) a h = absurd (no_room m (2 ^ k) a (pow_pos k) (subst (λ (d : ℕ). 8388608 * d ≤ m * 1) (pow-succ' 2 k) (subst (λ (n : ℕ). 8388608 * 2 ^ suc k ≤ n) (mul-one (m * 1)) h)))

-- where nothing is left over, a float is its own floor
itself : (s : Bool) (m : ℕ) (e : ℤ) → m * up e % down e ≡ 0 → fin s m e ≡ floored (fin s m e)
unfolding floored
itself s m e z = rw (eq-eqb (m * up e % down e) 0 z)

pub floor-of-big : (x : Float) → T (fits binary32 x) → le limit (magnitude_of x) ≡ true → x ≡ floored x
unfolding magnitude_of floored
floor-of-big nan h b = refl
floor-of-big (inf s) h b = refl
floor-of-big (fin s m e) h b = itself s m e (big-whole m e (fitting binary32 s m e h).few (le→cross limit (fin false m e) tt tt (subst T (sym b) tt)))

pub floor-of-nan : (x : Float) {flag : Bool} → flag ≡ is_nan x → flag ≡ true → x ≡ floored x
unfolding floored
floor-of-nan x e t = let z : x ≡ nan = nan_is x (told e t) in rw z

-- ---- below 2^23
abbrev pub Small : Float → Type 0
Small x = Under 23 x

pub small : (x : Float) {flag : Bool} → flag ≡ is_nan x → flag ≡ false → le limit (magnitude_of x) ≡ false → Small x
small x e t b = under 23 x (told e t) b

pub may-cut : (x : Float) → Small x → T (lt (fin true 1 (pos 0)) (magnitude_of x)) × T (lt (magnitude_of x) (fin false 1 (pos 64)))
may-cut x h = cuts 23 (lit≤ tt) x h

pub cut_small : (x : Float) → Small x → cut_of x < 8388608
cut_small x h = cut-under 23 (lit≤ tt) x h

-- ---- the whole part, as a float, against the size
-- y is q, and the size is q and what is left over: they are equal just where nothing is
left_over : (y : Float) (m : ℕ) (e : ℤ) → HasValue y false (m * up e / down e) 1 → eq y (fin false m e) ≡ eqb (m * up e % down e) 0
unfolding eq
left_over nan m e v = absurd v
left_over (inf s) m e v = absurd v
left_over (fin true n d) m e v = absurd (true≢false v.0)
left_over (fin false n d) m e v =
    let q = m * up e / down e in
    let r = m * up e % down e in
    let x : q * down e + r ≡ m * up e = div-add-mod' (m * up e) (down e) in
    let y : n * up d * down e ≡ q * down e * down d = ap (λ (a : ℕ). a * down e) (sym (mul-one (n * up d)) ∙ v.1) ∙ mul_right_comm q (down d) (down e) in
    same_test (eqb (n * up d * down e) (m * up e * down d) && true) (eqb r 0)
    (λ t. eq→eqb (rest (q * down e) r (m * up e) x (eq_of_mul-eq-mul_right (down d) (down_pos d) (q * down e) (m * up e) (sym y ∙ eqb→eq (n * up d * down e) (m * up e * down d) (and_l (eqb (n * up d * down e) (m * up e * down d)) true t)))))
    (λ t. and_i (eqb (n * up d * down e) (m * up e * down d)) true (eq→eqb (y ∙ ap (λ (a : ℕ). a * down d) (none (q * down e) r (m * up e) x (eqb→eq r 0 t)))) tt)
  where
    rest : (a r n : ℕ) → a + r ≡ n → a ≡ n → r ≡ 0
    rest a r n x y = omega arith

    none : (a r n : ℕ) → a + r ≡ n → r ≡ 0 → a ≡ n
    none a r n x z = omega arith

-- the code's test
pub test-is : (s : Bool) (m : ℕ) (e : ℤ) → Small (fin s m e) → eq (of_int binary32 (pos (cut_of (fin s m e)))) (magnitude_of (fin s m e)) ≡ eqb (m * up e % down e) 0
unfolding of_int magnitude_of
test-is s m e h =
    ap (λ (q : ℕ). eq (round binary32 false q 1) (fin false m e)) (cut-is 23 (lit≤ tt) s m e h)
    ∙ left_over (round binary32 false (m * up e / down e) 1) m e (round_whole binary32 false (m * up e / down e) (le_trans (le_of_lt ((div-lt_iff_lt-mul (down_pos e)).1 h)) (lit≤ tt)))

pub floor-of-whole : (x : Float) → Small x → eq (of_int binary32 (pos (cut_of x))) (magnitude_of x) ≡ true → x ≡ floored x
floor-of-whole nan h t = absurd h
floor-of-whole (inf s) h t = absurd h
floor-of-whole (fin s m e) h t = itself s m e (eqb-true (m * up e % down e) 0 (sym (test-is s m e h) ∙ t))

-- where something is left over, the floor is `below` the whole part
step_down : (s : Bool) (m : ℕ) (e : ℤ) → Small (fin s m e) → eq (of_int binary32 (pos (cut_of (fin s m e)))) (magnitude_of (fin s m e)) ≡ false → of_int binary32 (down_to s (cut_of (fin s m e))) ≡ floored (fin s m e)
unfolding floored
step_down s m e h t =
    ap (λ (q : ℕ). of_int binary32 (down_to s q)) (cut-is 23 (lit≤ tt) s m e h)
    ∙ sym (ap (λ (b : Bool). cond b (fin s m e) (of_int binary32 (down_to s (m * up e / down e)))) (sym (test-is s m e h) ∙ t))

pub floor-of-positive : (x : Float) → Small x → negative x ≡ false → eq (of_int binary32 (pos (cut_of x))) (magnitude_of x) ≡ false → of_int binary32 (pos (cut_of x)) ≡ floored x
floor-of-positive nan h n t = absurd h
floor-of-positive (inf s) h n t = absurd h
floor-of-positive (fin true m e) h n t = absurd (true≢false n)
floor-of-positive (fin false m e) h n t = step_down false m e h t

pub floor-of-negative : (x : Float) → Small x → negative x ≡ true → eq (of_int binary32 (pos (cut_of x))) (magnitude_of x) ≡ false → neg (of_int binary32 (pos (cut_of x + 1))) ≡ floored x
unfolding of_int
floor-of-negative nan h n t = absurd h
floor-of-negative (inf s) h n t = absurd h
floor-of-negative (fin false m e) h n t = absurd (false≢true n)
floor-of-negative (fin true m e) h n t =
    neg-round binary32 (cut_of (fin true m e) + 1) 1 ∙ ap (λ (q : ℕ). round binary32 true q 1) (add-one (cut_of (fin true m e))) ∙ step_down true m e h t
