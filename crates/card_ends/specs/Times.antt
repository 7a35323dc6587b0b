-- Milliseconds beside the samples of a track, in whole numbers. Definitions and the statements; proofs/Times.antt and Held.antt prove them.
use Rattle.std.specs.Prelude.{◌≡◌, ℕ, ◌+◌, ◌*◌, ◌^◌, ◌≤◌, ◌<◌, T, Float, Some, unwrap_or}
use Rattle.std.specs.Float.{binary64}
use Rattle.std.specs.Float.Ieee.{le}
use Rattle.laws.specs.Convert.{parts}
use Rattle.calls.specs.Call.{seconds_at}
use Rattle.calls.specs.declared.Settings.{Settings}
use Rattle.packed.specs.Packing.{milliseconds_of}
use Rattle.timeline.specs.Tiling.{Time}

-- n milliseconds are no longer than so many samples at that rate: n / 1000 ≤ samples / rate
abbrev pub Inside : ℕ → ℕ → ℕ → Type 0
Inside n rate samples = n * rate ≤ 1000 * samples

-- a track as the checks leave it, of so many seconds at most
pub record Lasting (seconds : ℕ) (s : Settings) (samples : ℕ) : Type 0 where
  pub rated : 0 < s.rate
  pub slow : s.rate ≤ 192_000
  pub short : samples ≤ seconds * s.rate

-- for every limit below 2 ^ 25 seconds, which is more than a year: the milliseconds of a time up to the duration lie inside the track, though the duration is rounded to f64
abbrev pub TimesInside : Type 0
TimesInside =
    (seconds : ℕ) → seconds < 2 ^ 25 → (s : Settings) (samples : ℕ) → Lasting seconds s samples →
    (x : Float) → Time x → T (le x (seconds_at s samples)) → (limit n : ℕ) → milliseconds_of x limit ≡ Some n → Inside n s.rate samples

-- a time of so many seconds at most is packed as their milliseconds at most, where the limit is no lower
abbrev pub TimesHeld : Type 0
TimesHeld =
    (seconds : ℕ) → seconds < 2 ^ 53 → (x : Float) → Time x → T (le x (parts binary64 0 seconds)) → (limit : ℕ) → seconds * 1000 ≤ limit →
    unwrap_or (milliseconds_of x limit) (limit + 1) ≤ seconds * 1000
