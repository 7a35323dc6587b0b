-- The span of a track that passes the checks: whole numbers divide with one rounding, so the duration is no longer than the longest track.
use Rattle.std.proofs.Common.{◌≡◌, ℕ, ◌+◌, ◌*◌, ◌^◌, ◌<◌, ◌≤◌, Bool, true, false, cond, T, sym, ap, ◌∙◌, subst, subst₂, le_of_lt, mul_assoc, mul_comm, mul-one, arith, lit<, lit≤}
use lib.Ieee.{Float, nan, inf, fin, Format, binary32, binary64, prec, div, lt, le, fits}
use lib.Ieee.Scale.{finite, round_same}
use lib.Ieee.Fits.{fits_widens, round-fits}
use lib.Ieee.Exact.{HasValue}
use lib.Ieee.Back.{round_whole}
use lib.Ieee.Positive.{num, den, positive_of_value, value→cross}
use Rattle.laws.specs.First.{first}
use Rattle.laws.specs.Values.{plus_zero, clear, nonneg, Modest}
use Rattle.laws.specs.Convert.{parts}
use Rattle.laws.proofs.First.{first-within}
use Rattle.laws.proofs.Zero.{above-clear}
use Rattle.laws.proofs.Nonneg.{Rounds, rounds-clear, rounds-mono, div-rounds}
use Rattle.laws.proofs.Held.{value-nonneg}
use Rattle.laws.proofs.Middle.{modest-under}
use Rattle.laws.proofs.Parts.{whole_is, parts-rounds, parts-modest}
use Rattle.calls.specs.declared.Settings.{Settings}
use Rattle.windows.specs.Span.{span_of, brief, ends_at, budget_for, windows_within, windows_of, rows_asked}
use Rattle.calls.specs.Call.{seconds_at, longest_track}
use Rattle.windows.specs.Rising.{Timed}
use Rattle.windows.specs.declared.span.Span.{Span}

-- ---- how many windows
-- no more windows than rows are asked for
pub windows-asked : (s : Span) → windows_of s ≤ rows_asked s
unfolding rows_asked
windows-asked s = omega arith

-- a row at least is asked for
pub some-asked : (s : Span) → 0 < rows_asked s
unfolding rows_asked
some-asked s = omega arith

-- the budget holds the windows far below what a count can be
pub windows-few : (s : Span) → windows_of s ≤ budget_for longest_track
unfolding windows_of windows_within
windows-few s = either (brief s) (first-within (ends_at s) (budget_for longest_track) 0)
  where
    either : (b : Bool) → first (ends_at s) (budget_for longest_track) 0 ≤ 0 + budget_for longest_track → cond b 0 (first (ends_at s) (budget_for longest_track) 0) ≤ budget_for longest_track
    either true h = omega arith
    either false h = omega arith

-- ---- the duration
-- of a whole number by another the quotient is rounded once
whole-rounds : (f : Format) (m n : ℕ) → m < 2 ^ prec f → 0 < n → n < 2 ^ prec f → Rounds f (div f (parts f 0 m) (parts f 0 n)) m n
whole-rounds f m n few some small =
    let x = parts f 0 m in
    let y = parts f 0 n in
    let v : HasValue x false m 1 = round_whole f false m (le_of_lt few) in
    let w : HasValue y false n 1 = round_whole f false n (le_of_lt small) in
    let r = div-rounds f x y (value-nonneg x m 1 v) (positive_of_value y n 1 w some) in
    record { is = r.is ∙ round_same f false (num x * den y) (num y * den x) m n r.some some (crossed (num x) (den x) (num y) (den y) (value→cross x m 1 v) (value→cross y n 1 w)); some = some }
  where
    crossed : (a p b q : ℕ) → a * 1 ≡ m * p → b * 1 ≡ n * q → a * q * n ≡ m * (b * p)
    crossed a p b q d e =
        mul_assoc a q n ∙ ap (λ (z : ℕ). a * z) (mul_comm q n ∙ sym e ∙ mul-one b) ∙ ap (λ (z : ℕ). z * b) (sym (mul-one a) ∙ d) ∙ mul_assoc m p b ∙ ap (λ (z : ℕ). m * z) (mul_comm p b)

-- a sample's time
pub seconds-round : (s : Settings) (sample : ℕ) → sample < 2 ^ 53 → 0 < s.rate → s.rate < 2 ^ 53 → Rounds binary64 (seconds_at s sample) sample s.rate
unfolding seconds_at
seconds-round s sample few rated slow =
    subst₂ (λ (x y : Float). Rounds binary64 (div binary64 x y) sample s.rate) (sym (whole_is binary64 sample)) (sym (whole_is binary64 s.rate))
    (whole-rounds binary64 sample s.rate few rated slow)

rounds-fit : {f : Format} {x : Float} {a c : ℕ} → Rounds f x a c → T (fits f x)
rounds-fit {f} {x} {a} {c} r = subst (λ (z : Float). T (fits f z)) (sym r.is) (round-fits f false a c)

finite-clear : (x : Float) → T (finite x) → T (clear x) → T (nonneg x)
finite-clear nan h c = h
finite-clear (inf s) h c = h
finite-clear (fin s m e) h c = c

module _ (s : Settings) (count : ℕ) (rated : 0 < s.rate) (slow : s.rate ≤ 192_000) (short : count ≤ longest_track * s.rate) where
  lasts : Rounds binary64 (span_of s count).duration count s.rate
  unfolding span_of
  lasts = seconds-round s count (omega arith) rated (omega arith)

  pub duration-under : T (le (span_of s count).duration (parts binary64 0 longest_track))
  duration-under = rounds-mono lasts (parts-rounds binary64 0 longest_track) (omega arith)

  pub duration-modest : Modest binary64 (span_of s count).duration
  duration-modest =
      modest-under binary64 (span_of s count).duration (parts binary64 0 longest_track) (rounds-fit lasts) (rounds-clear lasts) (parts-modest binary64 0 (lit≤ tt) longest_track (lit< tt)) duration-under

  -- a window that is an f32 above +0, and a hop above +0
  pub span-timed : T (fits binary32 s.local_window_seconds) → T (finite s.local_window_seconds) → T (lt plus_zero s.local_window_seconds) → T (lt plus_zero s.local_hop_seconds) → Timed (span_of s count)
  unfolding span_of
  span-timed fit whole window hop =
      record {
        window = record { in_format = fits_widens s.local_window_seconds fit; at_least_zero = finite-clear s.local_window_seconds whole (above-clear s.local_window_seconds window) };
        hop = above-clear s.local_hop_seconds hop;
        duration = duration-modest;
      }
