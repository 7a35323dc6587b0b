-- A frame further on has a later middle; neither a whole number's float falls as the number grows, nor its quotient by the rate.
use Prim.Native.Nat.{ℕ, zero, suc, ◌+◌, ◌*◌, ◌<◌, ◌≤◌}
use mathlib.Core.Path.{◌≡◌, sym, ap₂, subst₂, ◌∙◌}
use mathlib.Core.Bool.{false}
use mathlib.Core.List.{List, [], ◌∷◌, ◌++◌, map}
use native.Mathlib.Nat.{not-suc-le-zero, mul-le-mul_right}
use native.Mathlib.Omega.{arith}
use lib.Dec.{T}
use lib.ListN.{length, get_or, length-map, get_or-map}
use lib.Ieee.{Float, nan, binary64, div, le}
use lib.Ieee.Back.{round_whole}
use lib.Ieee.Positive.{positive, positive_of_value}
use Rattle.laws.specs.Convert.{parts}
use Rattle.laws.proofs.Cases.{by-test}
use Rattle.laws.proofs.Column.{entry-there}
use Rattle.laws.proofs.Every.{every-pair-of, each_more, each-pair-more}
use Rattle.laws.proofs.Order.{le_refl, le_trans}
use Rattle.laws.proofs.Nonneg.{positive→nonneg, nonneg→ordered, div_mono}
use Rattle.laws.proofs.Parts.{whole_is, parts-clear, parts-mono}
use Rattle.calls.specs.Call.{Call, seconds_at}
use Rattle.checks.proofs.Passed.{passed}
use Rattle.one_frame.specs.Frame.{loud, middle_of, row_of}
use Rattle.frames.specs.Run.{energy_at, frame_row, loud_before}
use Rattle.frames.specs.Rising.{LoudCentresRise}
use Rattle.one_frame.specs.declared.frame.Row.{Row}

module _ (c : Call) (rated : 0 < c.settings.rate) (slow : c.settings.rate ≤ 192_000) where
  -- the middle of the frame at position k, as a sample and in seconds
  abbrev middle : ℕ → ℕ
  middle k = middle_of c.settings (k * c.settings.hop_size)

  abbrev centre : ℕ → Float
  centre k = seconds_at c.settings (middle k)

  centre-is : (k : ℕ) → div binary64 (parts binary64 0 (middle k)) (parts binary64 0 c.settings.rate) ≡ centre k
  unfolding seconds_at
  centre-is k = ap₂ (div binary64) (sym (whole_is binary64 (middle k))) (sym (whole_is binary64 c.settings.rate))

  centre-upward : (j k : ℕ) → j ≤ k → T (le (centre j) (centre k))
  centre-upward j k h =
      let rate = parts binary64 0 c.settings.rate in
      let above : T (positive rate) = positive_of_value rate c.settings.rate 1 (round_whole binary64 false c.settings.rate (omega arith)) rated in
      let further = mul-le-mul_right c.settings.hop_size h in
      let later = parts-mono binary64 0 (middle j) (middle k) (omega (arith, further)) in
      subst₂ (λ (x y : Float). T (le x y)) (centre-is j) (centre-is k)
      (div_mono binary64 (parts binary64 0 (middle j)) (parts binary64 0 (middle k)) rate rate (parts-clear binary64 0 (middle j)) (parts-clear binary64 0 (middle k)) above above later (le_refl rate (nonneg→ordered rate (positive→nonneg rate above))))

  -- found before position k: the centres rise, and none is after that position's
  record Before (k : ℕ) (found : List Row) : Type 0 where
    upward : (i : ℕ) (d : Row) → i + 1 < length found → T (le (get_or found i d).centre (get_or found (i + 1) d).centre)
    under : (i : ℕ) (d : Row) → i < length found → T (le (get_or found i d).centre (centre k))

  later : (k : ℕ) {found : List Row} → Before k found → Before (suc k) found
  later k {found} b = record { upward = b.upward; under = λ i d l. le_trans (get_or found i d).centre (centre k) (centre (suc k)) (b.under i d l) (centre-upward k (suc k) (omega arith)) }

  one_more : (k : ℕ) {found : List Row} → Before k found → Before k (found ++ (frame_row c k ∷ []))
  unfolding frame_row row_of
  one_more k {found} b =
      record {
        upward = λ i d l. each-pair-more found (frame_row c k) d (λ (x y : Row). T (le x.centre y.centre)) (λ j h. b.upward j d h) (λ j h. b.under j d h) i l;
        under = λ i d l. each_more found (frame_row c k) d (λ (x : Row). T (le x.centre (centre k))) (λ j h. b.under j d h) (centre-upward k k (omega arith)) i l;
      }

  before-each : (k : ℕ) → Before k (loud_before c k)
  unfolding loud_before
  before-each zero = record { upward = λ i d l. absurd (not-suc-le-zero l); under = λ i d l. absurd (not-suc-le-zero l) }
  before-each (suc k) = let b = before-each k in by-test (Before (suc k)) (loud (energy_at c k)) (λ _. later k (one_more k b)) (λ _. later k b)

pub loud-centres-rise : LoudCentresRise
loud-centres-rise c hasty crowded positions k go =
    let p = passed c hasty crowded positions go in
    let found = loud_before c k in
    let centres = map (λ (r : Row). r.centre) found in
    let d = frame_row c 0 in
    let at : (i : ℕ) → i < length found → (get_or found i d).centre ≡ get_or centres i nan = λ i l. sym (entry-there centres i nan d.centre (rw (length-map found (λ (r : Row). r.centre)) l) ∙ get_or-map (λ (r : Row). r.centre) found i d) in
    every-pair-of le nan centres (length found)
    (λ i l. subst₂ (λ (x y : Float). T (le x y)) (at i (omega (arith, l))) (at (i + 1) (omega (arith, l))) ((before-each c p.worthwhile.rated p.slow k).upward i d (omega (arith, l))))
