-- What is left of a window that is cut at the track's ends, and where a row's window lies among the joined ones.
use Rattle.std.proofs.Common.{◌≡◌, ℕ, zero, suc, ◌+◌, ◌-◌, ◌/◌, ◌<◌, ◌≤◌, min, List, length, get_or, ap, ◌∙◌, inl, inr, le_of_suc-le-suc, not-suc-le-zero, eq-or-lt_of_le, add-one, arith}
use lib.Ieee.{Float}
use Rattle.sheets.specs.Sheet.{joined_length}
use Rattle.constant_q.specs.ConstantQ.{covered_from, covered_count}
use Rattle.constant_q.specs.inside.Lanes.{Lies, FourLie}
use Rattle.constant_q.specs.inside.Powers.{covered_span, lane_at, Readable, lanes_from}

cut : (start size samples : ℕ) → start ≤ samples → min size (samples - start) ≡ min (start + size) samples - start
cut start size samples h = omega arith

pub span-is : (size centre samples : ℕ) {start count : ℕ} → centre ≤ samples → start ≡ centre - size / 2 → count ≡ min size (samples - start) → record { start = start; count = count } ≡ covered_span size centre samples
span-is size centre samples {start} {count} h s e =
    let l : start ≤ samples = omega arith in
    let same : count ≡ min (start + size) samples - start = e ∙ cut start size samples l in
    rw (same, s)

-- what is covered lies on the track, and within the window
pub covered : (size centre samples : ℕ) → centre ≤ samples → covered_from size centre + covered_count size centre samples ≤ samples
covered size centre samples h = omega arith

pub within-window : (size centre samples : ℕ) → covered_count size centre samples ≤ size
within-window size centre samples = omega arith

-- a row's window ends no later than all windows do
pub joined-within : (lengths : List ℕ) (n k : ℕ) → k < n → joined_length lengths k + get_or lengths k 0 ≤ joined_length lengths n
unfolding joined_length
joined-within lengths zero k h = absurd (not-suc-le-zero h)
joined-within lengths (suc n) k h =
    elim (eq-or-lt_of_le (le_of_suc-le-suc h)) [
      | inl e ↦ let same : joined_length lengths k + get_or lengths k 0 ≡ joined_length lengths n + get_or lengths n 0 = ap (λ (j : ℕ). joined_length lengths j + get_or lengths j 0) e in omega arith
      | inr l ↦ let more = joined-within lengths n k l in omega arith
    ]

pub joined-next : (lengths : List ℕ) (k : ℕ) → joined_length lengths k + get_or lengths k 0 ≡ joined_length lengths (k + 1)
unfolding joined_length
joined-next lengths k = rw (add-one, joined_length)

-- a row of a readable sheet lies on the track and within its window, and so do four
module _ (samples centre : ℕ) (lengths : List ℕ) (coefficients : List Float) (end : ℕ) (readable : Readable samples centre lengths coefficients end) (short : (k : ℕ) → get_or lengths k 0 < 0x1_0000_0000) where
  pub lane_lies : (k : ℕ) → k < length lengths → Lies samples end (lane_at samples centre lengths coefficients k)
  lane_lies k h =
      let size = get_or lengths k 0 in
      let under = within-window size centre samples in
      let fits = joined-within lengths (length lengths) k h in
      let least = short k in
      record { on_track = covered size centre samples readable.near; in_windows = omega arith; short = omega arith }

  pub four-lie : (k : ℕ) → k + 4 ≤ length lengths → FourLie samples end (lanes_from samples centre lengths coefficients k)
  four-lie k h = record { a = lane_lies k (omega arith); b = lane_lies (k + 1) (omega arith); c = lane_lies (k + 2) (omega arith); d = lane_lies (k + 3) (omega arith) }
