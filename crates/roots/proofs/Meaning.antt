-- `root_of x` is the binary32 value nearest to √x, for every x that is finite and above zero, and no other value is.
use Prim.Native.Nat.{ℕ, suc, ◌+◌, ◌-◌, ◌*◌, ◌/◌, ◌%◌, ◌^◌, ◌≤◌, ◌<◌}
use mathlib.Core.Path.{◌≡◌, refl, sym, ap, ◌∙◌}
use mathlib.Core.Bool.{false}
use native.Mathlib.Nat.{le_trans, le_of_eq, le_of_lt, le_antisymm, le_of_suc-le-suc, lt_of_lt_of_le, lt_of_le_of_lt, lt_of_not-le, not-le_of_lt, add_comm, mul-pos, mul-le-mul, mul-le-mul_left, mul-le-mul_right, mul_assoc, mul_comm, mul_left_comm, mul-lt-mul_of_pos_right}
use native.Mathlib.Decide.{dec_lt}
use native.Mathlib.Omega.{arith}
use lib.Count.{count_leading_zeros, leading_top}
use lib.Dec.{T}
use lib.Pow.{pow-add, pow_pos, pow_mono}
use lib.Ieee.{Float, binary32, fits, lt}
use lib.Ieee.Exact.{HasValue}
use lib.Ieee.Positive.{num, den, den_pos, positive, value→cross, value_pos, first_pos}
use Rattle.roots.specs.Root.{root_of, root_of_units, whole_root}
use Rattle.roots.specs.inside.Steps.{Scaled, Floor, Nearest, Parts, Evened}
use Rattle.roots.specs.Meaning.{twice_middle, NearestRoot, RootIsNearest}
use Rattle.laws.specs.Values.{nonneg}
use Rattle.laws.proofs.Nonneg.{positive→nonneg, lt→cross, cross→lt}
use Rattle.laws.proofs.Held.{value-nonneg}
use Rattle.laws.proofs.Patterns.{same-value}
use Rattle.roots.proofs.Squares.{near-above, near-below}
use Rattle.roots.proofs.Doubled.{whole-root-is}
use Rattle.roots.proofs.Rounded.{scaled_up, rounded-root}
use Rattle.roots.proofs.Parts.{root-fits, evened-units}
use Rattle.roots.proofs.Values.{root-above-zero}
use Rattle.roots.proofs.Grid.{OnGrid, on-grid, power_below}
use Rattle.roots.proofs.Fractions.{square-below, square_above, middle, more-units, fewer-units}
use Rattle.roots.proofs.Neighbours.{neighbour-above, neighbour-below}

-- ---- v units of 2 ^ -149 with at most 24 digits are n * 4 ^ (i + 1) of the units 4 ^ -100, for an n of 47 or 48 digits, and some r is nearest to √n
nearest-exists : (n : ℕ) → Scaled n → (r : ℕ) × Nearest n r
nearest-exists n s = go (dec_lt q (n - q * q))
  where
    q : ℕ
    q = whole_root 24 n

    floor : Floor n q
    floor = whole-root-is 24 n s.below

    go : Dec (q < n - q * q) → (r : ℕ) × Nearest n r
    go (yes h) = (q + 1, near-above n q s floor h)
    go (no h) = (q, near-below n q s floor (le_of_suc-le-suc (lt_of_not-le h)))

evened-is : (s e : ℕ) → Parts s e → Evened s e (s * 2 ^ (23 + e % 2))
evened-is s e p =
    let d : e % 2 ≤ 1 = omega arith in
    let lo : 23 ≤ 23 + e % 2 = omega arith in
    let hi : 23 + e % 2 ≤ 24 = omega arith in
    record {
      scaled = record {
        least = mul-le-mul p.least (pow_mono lo);
        below = lt_of_lt_of_le (mul-lt-mul_of_pos_right p.below (pow_pos (23 + e % 2))) (mul-le-mul_left (2 ^ 24) (pow_mono hi));
      };
      value = refl;
    }

record Found (v : ℕ) : Type 0 where
  n : ℕ
  r : ℕ
  i : ℕ
  scaled : Scaled n
  near : Nearest n r
  most : i ≤ 139
  same : v * 2 ^ 51 ≡ scaled_up n (2 ^ i)

found : (d j : ℕ) → 0 < d → d < 2 ^ 24 → d * 2 ^ j < 2 ^ 277 → Found (d * 2 ^ j)
found d j p few within =
    let t = leading_top 24 d p few in
    let q = t.0 in
    let z = count_leading_zeros 24 d in
    let sum : z + suc q ≡ 24 = t.1 in
    let e = j + 126 - z in
    let s = d * 2 ^ z in
    let first : q + z ≡ 23 = omega arith in
    let last : suc q + z ≡ 24 = omega arith in
    let high : q + j < 277 = power_below (q + j) 277 (lt_of_le_of_lt (le_trans (le_of_eq (pow-add 2 q j)) (mul-le-mul_right (2 ^ j) t.2)) within) in
    let parts : Parts s e = record {
      least = le_trans (le_of_eq (ap (λ (k : ℕ). 2 ^ k) (sym first) ∙ pow-add 2 q z)) (mul-le-mul_right (2 ^ z) t.2);
      below = lt_of_lt_of_le (mul-lt-mul_of_pos_right t.3 (pow_pos z)) (le_of_eq (sym (pow-add 2 (suc q) z) ∙ ap (λ (k : ℕ). 2 ^ k) last));
      lowest = omega arith;
      highest = omega arith;
    } in
    let ev = evened-is s e parts in
    let n = s * 2 ^ (23 + e % 2) in
    let near = nearest-exists n ev.scaled in
    let places : z + (e - 75) ≡ j + 51 = omega arith in
    record {
      n = n;
      r = near.0;
      i = e / 2 - 50;
      scaled = ev.scaled;
      near = near.1;
      most = omega (arith, parts.highest);
      same =
          mul_assoc d (2 ^ j) (2 ^ 51)
          ∙ ap (λ (k : ℕ). d * k) (sym (pow-add 2 j 51) ∙ ap (λ (k : ℕ). 2 ^ k) (sym places) ∙ pow-add 2 z (e - 75))
          ∙ sym (mul_assoc d (2 ^ z) (2 ^ (e - 75)))
          ∙ sym (evened-units s e n parts ev);
    }

-- 4 * x in the terms of `Neighbours.antt`, where r is r * 2 ^ (i + 50) units
regroup : (n g c : ℕ) → 4 * n * (g * c * (g * c)) ≡ 4 * n * (g * g) * (c * c)
regroup n g c = simp (mul_assoc, mul_left_comm)

in-squares : (n v i : ℕ) → v * 2 ^ 51 ≡ scaled_up n (2 ^ i) → scaled_up n (2 ^ (i + 50)) ≡ 4 * v * 2 ^ 149
in-squares n v i h =
    ap (λ (g : ℕ). scaled_up n g) (pow-add 2 i 50)
    ∙ regroup n (2 ^ i) (2 ^ 50)
    ∙ ap (λ (k : ℕ). k * 2 ^ 100) (sym h)
    ∙ mul_assoc v (2 ^ 51) (2 ^ 100)
    ∙ sym (ap (λ (k : ℕ). k * 2 ^ 149) (mul_comm 4 v) ∙ mul_assoc v 4 (2 ^ 149))

-- ---- the theorem
module _ (x : Float) (v : ℕ) (p : 0 < v) (hx : HasValue x false v (2 ^ 149)) (w : Found v) where
  abbrev k : ℕ
  k = w.i + 50

  abbrev units : ℕ
  units = w.r * 2 ^ k

  is : root_of x ≡ root_of_units (scaled_up w.n (2 ^ w.i))
  is = root-above-zero x v hx p ∙ ap root_of_units w.same

  root-value : HasValue (root_of x) false units (2 ^ 149)
  root-value = rw is (rounded-root w.n w.r w.i w.scaled w.near w.most)

  root-nonneg : T (nonneg (root_of x))
  root-nonneg = value-nonneg (root_of x) units (2 ^ 149) root-value

  x-cross : num x * 2 ^ 149 ≡ v * den x
  x-cross = value→cross x v (2 ^ 149) hx

  root-cross : num (root_of x) * 2 ^ 149 ≡ units * den (root_of x)
  root-cross = value→cross (root_of x) units (2 ^ 149) root-value

  some : (y : Float) → 0 < den y * den (root_of x) * (den y * den (root_of x)) * den x
  some y = let d = mul-pos (den_pos y) (den_pos (root_of x)) in mul-pos (mul-pos d d) (den_pos x)

  module _ (y : Float) (gy : OnGrid y) (py : T (nonneg y)) where
    abbrev u : ℕ
    u = gy.digits * 2 ^ gy.place

    y-cross : num y * 2 ^ 149 ≡ u * den y
    y-cross = value→cross y u (2 ^ 149) gy.value

    twice : twice_middle y (root_of x) * 2 ^ 149 ≡ (u + units) * (den y * den (root_of x))
    twice = middle (2 ^ 149) y (root_of x) u units y-cross root-cross

    below : T (lt y (root_of x)) → twice_middle y (root_of x) * twice_middle y (root_of x) * den x < 4 * num x * (den y * den (root_of x) * (den y * den (root_of x)))
    below l =
        let fewer = fewer-units (2 ^ 149) y (root_of x) u units y-cross root-cross (pow_pos 149) (lt→cross y (root_of x) py root-nonneg l) in
        square-below (2 ^ 149) (twice_middle y (root_of x)) (den y * den (root_of x)) (den x) (num x) (u + units) v (some y) twice x-cross
        (lt_of_lt_of_le (neighbour-below w.n w.r k gy.digits gy.place w.scaled w.near gy.few fewer) (le_of_eq (in-squares w.n v w.i w.same)))

    above : T (lt (root_of x) y) → 4 * num x * (den y * den (root_of x) * (den y * den (root_of x))) < twice_middle y (root_of x) * twice_middle y (root_of x) * den x
    above l =
        let fewer = fewer-units (2 ^ 149) (root_of x) y units u root-cross y-cross (pow_pos 149) (lt→cross (root_of x) y root-nonneg py l) in
        square_above (2 ^ 149) (twice_middle y (root_of x)) (den y * den (root_of x)) (den x) (num x) (u + units) v (some y) twice x-cross
        (lt_of_le_of_lt (le_of_eq (sym (in-squares w.n v w.i w.same))) (neighbour-above w.n w.r k gy.digits gy.place w.scaled w.near gy.few fewer))

  nearest-root-at : NearestRoot x (root_of x)
  nearest-root-at = record {
    not_below_zero = root-nonneg;
    held = rw is (root-fits (scaled_up w.n (2 ^ w.i)));
    from_below = λ y hy py. below y (on-grid y hy py) py;
    from_above = λ y hy py. above y (on-grid y hy py) py;
  }

nearest-root : (x : Float) → T (fits binary32 x) → T (positive x) → NearestRoot x (root_of x)
nearest-root x h p =
    let g = on-grid x h (positive→nonneg x p) in
    let v = g.digits * 2 ^ g.place in
    let some-units : 0 < v = value_pos x v (2 ^ 149) p (pow_pos 149) g.value in
    nearest-root-at x v some-units g.value (found g.digits g.place (first_pos g.digits (2 ^ g.place) some-units) g.few g.within)

-- ---- and no other value is: of two such values each would have √x on its own side of their middle
no-two : (x r s : Float) → NearestRoot x r → NearestRoot x s → T (lt r s) → ⊥
no-two x r s pr ps l =
    let a = pr.from_above s ps.held ps.not_below_zero l in
    let b = ps.from_below r pr.held pr.not_below_zero l in
    not-le_of_lt (rw (add_comm (num s * den r) (num r * den s), mul_comm (den s) (den r)) at a) (le_of_lt b)

module _ (x r s : Float) (pr : NearestRoot x r) (ps : NearestRoot x s) (gr : OnGrid r) (gs : OnGrid s) where
  in_order : gr.digits * 2 ^ gr.place < gs.digits * 2 ^ gs.place → ⊥
  in_order h =
      let a = gr.digits * 2 ^ gr.place in
      let b = gs.digits * 2 ^ gs.place in
      no-two x r s pr ps
      (cross→lt r s pr.not_below_zero ps.not_below_zero
      (more-units (2 ^ 149) r s a b (value→cross r a (2 ^ 149) gr.value) (value→cross s b (2 ^ 149) gs.value) (mul-pos (den_pos r) (den_pos s)) h))

one-nearest : (x r s : Float) → NearestRoot x r → NearestRoot x s → r ≡ s
one-nearest x r s pr ps =
    let gr = on-grid r pr.held pr.not_below_zero in
    let gs = on-grid s ps.held ps.not_below_zero in
    let a = gr.digits * 2 ^ gr.place in
    let b = gs.digits * 2 ^ gs.place in
    let e : a ≡ b = le_antisymm (not_above a b (in_order x s r ps pr gs gr)) (not_above b a (in_order x r s pr ps gr gs)) in
    same-value binary32 r s b pr.held ps.held (rw e at gr.value) gs.value
  where
    not_above : (m n : ℕ) → (n < m → ⊥) → m ≤ n
    not_above m n h = le_of_suc-le-suc (lt_of_not-le h)

pub root-is-nearest : RootIsNearest
root-is-nearest x h p = record { nearest = nearest-root x h p; only = λ s n. one-nearest x s (root_of x) n (nearest-root x h p) }
