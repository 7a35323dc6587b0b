-- A mode's sums at all roots are those of each root alone, so a quarter of them are the scores.
use mathlib.Core.Path.{◌≡◌, ap, ◌∙◌}
use Prim.Native.Nat.{ℕ, ◌+◌, ◌*◌, ◌/◌, ◌%◌, ◌<◌}
use native.Mathlib.Omega.{arith}
use mathlib.Core.List.{List, [], ◌∷◌}
use lib.ListN.{get_or}
use lib.Ieee.{Float, nan, binary32, of_bits, add, div}
use Rattle.laws.specs.Turns.{turns}
use Rattle.laws.specs.Front.{list}
use Rattle.laws.specs.Values.{plus_zero}
use Rattle.laws.proofs.Turns.{turns-part}
use Rattle.laws.proofs.Front.{list_same, get_or-list}
use Rattle.correlations.specs.Correlation.{mean_of, correlation_of}
use Rattle.correlations.specs.inside.Deviations.{deviations_of, deviation_energy}
use Rattle.correlations.specs.inside.Divisors.{divisor_of}
use Rattle.correlations.specs.inside.Lanes.{turned_of}
use Rattle.scores.specs.Profiles.{profile_at}
use Rattle.numbers.specs.Sum.{added_each}
use Rattle.scores.specs.inside.Constants.{place_at}
use Rattle.scores.specs.inside.Modes.{wheel_at, divisor_for, divisors_of, divisors_at, mode_turn, mode_sums, no_mode_sums}
use Rattle.scores.specs.Scores.{score_turn, score_of, score_at, scores_of}
use Rattle.correlations.proofs.Turned.{turned-is}
use Rattle.scores.proofs.Constants.{constants-of-profiles}

-- the correlations with the profile in a row, with its divisors among all
row-turned : (chroma : List Float) (row : ℕ) → row < 8
    → turned_of (deviations_of chroma (mean_of chroma)) (wheel_at row) (divisors_at (divisors_of (deviation_energy (deviations_of chroma (mean_of chroma)))).values row) ≡ list (correlation_of chroma (profile_at row)) 12
unfolding divisors_of divisors_at
row-turned chroma row h =
    let energy = deviation_energy (deviations_of chroma (mean_of chroma)) in
    turned-is chroma (profile_at row) (divisors_at (divisors_of energy).values row)
    (λ (root : ℕ) (l : root < 12).
    get_or-list (λ (r : ℕ). get_or (divisors_of energy).values (place_at row r) nan) 12 root nan l
    ∙ get_or-list (λ (k : ℕ). (divisor_for energy k).value) 17 (place_at row root) nan (constants-of-profiles.place row root h l)
    ∙ ap (λ (e : Float). (divisor_of energy e).value) (constants-of-profiles.energy row root h l))

-- the sum for one root
mode-sum : (chroma : List Float) (mode root : ℕ) → mode < 2 → root < 12 → get_or (mode_sums (deviations_of chroma (mean_of chroma)) (divisors_of (deviation_energy (deviations_of chroma (mean_of chroma)))).values mode) root nan ≡ turns (score_turn chroma mode root) 4 0 plus_zero
unfolding mode_sums mode_turn added_each list
mode-sum chroma mode root m h =
    let away = deviations_of chroma (mean_of chroma) in
    let divisors = (divisors_of (deviation_energy away)).values in
    let turned : ℕ → List Float = λ (p : ℕ). turned_of away (wheel_at (2 * p + mode)) (divisors_at divisors (2 * p + mode)) in
    turns-part (λ (sums : List Float). get_or sums root nan) (mode_turn away divisors mode) (score_turn chroma mode root) 4 0
    (λ (p : ℕ) (sums : List Float) (b : p < 0 + 4).
    get_or-list (λ (i : ℕ). add binary32 (get_or sums i nan) (get_or (turned p) i nan)) 12 root nan h
    ∙ ap (λ (more : List Float). add binary32 (get_or sums root nan) (get_or more root nan)) (row-turned chroma (2 * p + mode) (omega arith))
    ∙ ap (add binary32 (get_or sums root nan)) (get_or-list (correlation_of chroma (profile_at (2 * p + mode))) 12 root nan h)) no_mode_sums
    ∙ ap (turns (score_turn chroma mode root) 4 0) (get_or-list (λ (i : ℕ). plus_zero) 12 root nan h)

-- a quarter of a sum
abbrev pub quarter : List (List Float) → ℕ → Float
quarter sums k = div binary32 (get_or (get_or sums (k / 12) []) (k % 12) nan) (of_bits binary32 0x4080_0000)

-- the scores, from what both modes sum to
pub scored : (chroma : List Float) {mean energy : Float} {away divisors major minor : List Float} → mean ≡ mean_of chroma → away ≡ deviations_of chroma mean → energy ≡ deviation_energy away → divisors ≡ (divisors_of energy).values → major ≡ mode_sums away divisors 0 → minor ≡ mode_sums away divisors 1
    → list (quarter (major ∷ minor ∷ [])) 24 ≡ scores_of chroma
unfolding scores_of score_of list
scored chroma u a e d m n =
    rw (n, m, d, e, a, u)
    (list_same (quarter (list both 2)) (score_at chroma) 24
    (λ (k : ℕ) (h : k < 24).
    ap (λ (sums : List Float). div binary32 (get_or sums (k % 12) nan) (of_bits binary32 0x4080_0000)) (get_or-list both 2 (k / 12) [] (omega arith))
    ∙ ap (λ (sum : Float). div binary32 sum (of_bits binary32 0x4080_0000)) (mode-sum chroma (k / 12) (k % 12) (omega arith) (omega arith))))
  where
    both : ℕ → List Float
    both = mode_sums (deviations_of chroma (mean_of chroma)) (divisors_of (deviation_energy (deviations_of chroma (mean_of chroma)))).values
