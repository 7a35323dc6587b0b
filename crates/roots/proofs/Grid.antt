-- A finite binary32 value that is not below zero, in units of 2 ^ -149: fewer than 2 ^ 24 times a power of two.
use Prim.Native.Nat.{ℕ, ◌+◌, ◌-◌, ◌*◌, ◌^◌, ◌≤◌, ◌<◌}
use mathlib.Core.Path.{◌≡◌, refl, sym, ap, ◌∙◌}
use mathlib.Core.Bool.{true, false}
use native.Mathlib.Nat.{le_trans, le_of_eq, lt_of_le_of_lt, lt_of_not-le, not-le_of_lt, mul_assoc}
use native.Mathlib.Omega.{arith}
use lib.Dec.{T}
use lib.Pow.{pow-add, pow_mono, shl_lt}
use lib.Ieee.{Float, nan, inf, fin, binary32, fits}
use lib.Ieee.Exact.{HasValue}
use Rattle.laws.specs.Values.{nonneg}
use Rattle.laws.proofs.Held.{fits-units, fits-room, units-room}

pub record OnGrid (y : Float) : Type 0 where
  pub digits : ℕ
  pub place : ℕ
  pub value : HasValue y false (digits * 2 ^ place) (2 ^ 149)
  pub few : digits < 2 ^ 24
  pub within : digits * 2 ^ place < 2 ^ 277

pub on-grid : (y : Float) → T (fits binary32 y) → T (nonneg y) → OnGrid y
on-grid nan h p = absurd p
on-grid (inf s) h p = absurd p
on-grid (fin true m e) h p = absurd p
on-grid (fin false m e) h p =
    let y = fin false m e in
    let u = fits-units binary32 y p h in
    record { digits = u.q; place = u.j; value = (refl, u.equal); few = u.short; within = units-room u (fits-room binary32 y p h) }

pub power_below : (a b : ℕ) → 2 ^ a < 2 ^ b → a < b
power_below a b h = lt_of_not-le (λ (g : b ≤ a). not-le_of_lt h (pow_mono g))

-- from 2 ^ (k + 23) units on, a value is a multiple of 2 ^ k units
pub multiple : (d j k : ℕ) → d < 2 ^ 24 → 2 ^ 23 * 2 ^ k ≤ d * 2 ^ j → (t : ℕ) × (t * 2 ^ k ≡ d * 2 ^ j)
multiple d j k f h =
    let l : 23 + k < 24 + j = power_below (23 + k) (24 + j) (lt_of_le_of_lt (le_trans (le_of_eq (pow-add 2 23 k)) h) (shl_lt 24 j f)) in
    let e : j - k + k ≡ j = omega arith in
    (d * 2 ^ (j - k), mul_assoc d (2 ^ (j - k)) (2 ^ k) ∙ ap (λ (x : ℕ). d * x) (sym (pow-add 2 (j - k) k) ∙ ap (λ (x : ℕ). 2 ^ x) e))
