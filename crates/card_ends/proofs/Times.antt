-- The f64 just above samples / rate in steps of 2 ^ -28 bounds the rounded duration; and a step is less than 1 / (1000 * rate), by which samples / rate misses each millisecond at least.
use Rattle.std.specs.Prelude.{Some}
use mathlib.Core.Path.{◌≡◌, ap}
use Prim.Native.Nat.{ℕ, ◌+◌, ◌*◌, ◌/◌, ◌^◌, ◌≤◌, ◌<◌}
use native.Mathlib.Nat.{le_refl, le_of_lt, mul-pos, mul-le-mul, mul-le-mul_right, le_of_mul-le-mul_right, le-div_iff_mul-le, div-lt_iff_lt-mul}
use native.Mathlib.Omega.{arith}
use lib.Dec.{T, lit≤}
use lib.Ieee.{Float, binary64, low, le}
use lib.Ieee.Positive.{num, den, den_pos}
use Rattle.laws.specs.Convert.{parts}
use Rattle.laws.proofs.Order.{le_trans as order_trans}
use Rattle.laws.proofs.Nonneg.{le→cross, Rounds, rounds-mono}
use Rattle.laws.proofs.Parts.{parts-rounds, parts_held, parts-cross}
use Rattle.calls.specs.Call.{seconds_at}
use Rattle.calls.specs.declared.Settings.{Settings}
use Rattle.windows.proofs.Spans.{seconds-round}
use Rattle.packed.specs.Packing.{milliseconds_of}
use Rattle.packed.proofs.Down.{packed-round-down}
use Rattle.timeline.specs.Tiling.{Time}
use Rattle.card_ends.specs.Times.{Inside, Lasting, TimesInside}

-- n ≤ 1000 * (a / p), a / p ≤ b / q and b / q = k / t give n ≤ 1000 * (k / t)
pub under-step : (n a p b q k t : ℕ) → 0 < p → 0 < q → n * p ≤ a * 1000 → a * q ≤ b * p → b * t ≡ k * q → n * t ≤ k * 1000
under-step n a p b q k t some more reached under is =
    let first : n * p * (t * q) ≤ a * 1000 * (t * q) = mul-le-mul_right (t * q) reached in
    let second : a * q * (1000 * t) ≤ b * p * (1000 * t) = mul-le-mul_right (1000 * t) under in
    let third : b * t * (1000 * p) ≡ k * q * (1000 * p) = ap (λ (z : ℕ). z * (1000 * p)) is in
    le_of_mul-le-mul_right (omega (arith, first, second, third)) (mul-pos some more)

module _ (seconds : ℕ) (moderate : seconds < 2 ^ 25) (s : Settings) (samples : ℕ) (t : Lasting seconds s samples) where
  -- whole steps before the end of the track
  abbrev steps : ℕ
  steps = samples * 2 ^ 28 / s.rate

  few : steps + 1 < 2 ^ 53
  few =
      let all : samples * 2 ^ 28 ≤ seconds * s.rate * 2 ^ 28 = mul-le-mul_right (2 ^ 28) t.short in
      let fewer : steps < seconds * 2 ^ 28 + 1 = (div-lt_iff_lt-mul t.rated).1 (omega (arith, all, t.rated)) in
      omega (arith, fewer, moderate)

  rounds : Rounds binary64 (seconds_at s samples) samples s.rate
  rounds =
      let most : seconds * s.rate ≤ 2 ^ 25 * 192_000 = mul-le-mul (le_of_lt moderate) t.slow in
      seconds-round s samples (omega (arith, most, t.short)) t.rated (omega (arith, t.slow))

  -- the step above it
  abbrev above : Float
  above = parts binary64 28 (steps + 1)

  duration-under : T (le (seconds_at s samples) above)
  duration-under = rounds-mono rounds (parts-rounds binary64 28 (steps + 1)) (le_of_lt ((div-lt_iff_lt-mul t.rated).0 (omega arith)))

  -- milliseconds that are no longer than the step above lie inside the track
  inside-step : (n : ℕ) → n * 2 ^ 28 ≤ (steps + 1) * 1000 → Inside n s.rate samples
  inside-step n h =
      let times : n * 2 ^ 28 * s.rate ≤ (steps + 1) * 1000 * s.rate = mul-le-mul_right s.rate h in
      let whole : steps * s.rate ≤ samples * 2 ^ 28 = (le-div_iff_mul-le t.rated).0 (le_refl steps) in
      omega (arith, times, whole, t.slow)

  time-inside : (x : Float) → Time x → T (le x (seconds_at s samples)) → (limit n : ℕ) → milliseconds_of x limit ≡ Some n → Inside n s.rate samples
  time-inside x held below limit n e =
      let fine : 28 ≤ low binary64 = lit≤ tt in
      let exact = parts_held binary64 28 fine (steps + 1) few in
      let under = le→cross x above held.at_least_zero exact.at_least_zero (order_trans x (seconds_at s samples) above below duration-under) in
      inside-step n
      (under-step n (num x) (den x) (num above) (den above) (steps + 1) (2 ^ 28) (den_pos x) (den_pos above) ((packed-round-down.milliseconds limit).only x n e).0.reached under (parts-cross binary64 28 fine (steps + 1) few))

pub times-inside : TimesInside
times-inside = time-inside
