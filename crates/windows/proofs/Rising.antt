-- The centres rise: each is its window's start and half a window, starts do not fall, and a window that the loop passes ends by the duration.
use Rattle.std.proofs.Common.{◌≡◌, ℕ, zero, suc, ◌+◌, ◌<◌, false, T, List, [], ◌∷◌, ◌++◌, length, sym, refl, subst, not-suc-le-zero, add-one, arith}
use borrow.Author.Tests.{not-false}
use lib.Ieee.{Float, binary64, add, le}
use lib.Ieee.Fits.{add-fits}
use Rattle.laws.specs.Values.{clear, two, Modest}
use Rattle.laws.specs.Convert.{half}
use Rattle.laws.proofs.Cases.{by-test}
use Rattle.laws.proofs.Every.{each_more, each-pair-more}
use Rattle.laws.proofs.First.{first-before}
use Rattle.laws.proofs.Order.{le_refl, le_trans}
use Rattle.laws.proofs.Nonneg.{nonneg→clear, clear→ordered, add-clear, add-mono, div-clear}
use Rattle.laws.proofs.Middle.{half-under, modest-under}
use Rattle.windows.specs.Span.{start_of, ends_at, windows_within}
use Rattle.gathering.specs.Gather.{Heard}
use Rattle.windows.specs.Estimates.{estimate_of}
use Rattle.windows.specs.Run.{estimate_from, silent, estimates_before}
use Rattle.timeline.specs.Estimates.{no_estimate, centre_at, Rising}
use Rattle.windows.specs.Rising.{Timed, CentresRise}
use Rattle.windows.specs.declared.span.Span.{Span}
use Rattle.timeline.specs.declared.estimate.Estimate.{Estimate}
use Rattle.windows.proofs.Starts.{start-clear, start-upward}

module _ (s : Span) (h : Heard) (timed : Timed s) where
  window-clear : T (clear s.window)
  window-clear = nonneg→clear s.window timed.window.at_least_zero

  half-clear : T (clear (half binary64 s.window))
  half-clear = div-clear binary64 s.window two window-clear tt

  -- the middle of window k
  abbrev middle : ℕ → Float
  middle k = add binary64 (start_of s k) (half binary64 s.window)

  middle-clear : (k : ℕ) → T (clear (middle k))
  middle-clear k = add-clear binary64 (start_of s k) (half binary64 s.window) (start-clear s timed.hop k) half-clear

  middle-upward : (k : ℕ) → T (le (middle k) (middle (k + 1)))
  middle-upward k =
      add-mono binary64 (start_of s k) (start_of s (k + 1)) (half binary64 s.window) (half binary64 s.window) (start-clear s timed.hop k) (start-clear s timed.hop (k + 1)) half-clear half-clear (start-upward s timed.hop k) (le_refl (half binary64 s.window) (clear→ordered (half binary64 s.window) half-clear))

  -- a window that ends by the duration has its middle by then
  middle-inside : (k : ℕ) → ends_at s k ≡ false → T (le (middle k) s.duration)
  unfolding ends_at
  middle-inside k e =
      let start = start_of s k in
      let c = start-clear s timed.hop k in
      le_trans (middle k) (add binary64 start s.window) s.duration
      (add-mono binary64 start start (half binary64 s.window) s.window c c half-clear window-clear (le_refl start (clear→ordered start c)) (half-under binary64 s.window timed.window))
      (subst T (sym (not-false (le (add binary64 start s.window) s.duration) e)) tt)

  middle-modest : (k : ℕ) → ends_at s k ≡ false → Modest binary64 (middle k)
  middle-modest k e = modest-under binary64 (middle k) s.duration (add-fits binary64 (start_of s k) (half binary64 s.window)) (middle-clear k) timed.duration (middle-inside k e)

  centre-is : (k : ℕ) → (estimate_from s h (start_of s k)).centre ≡ middle k
  unfolding estimate_from estimate_of
  centre-is k = refl

  -- before window k: the centres rise, and none is after that window's middle
  record Before (k : ℕ) (found : List Estimate) : Type 0 where
    rising : Rising s.duration found
    under : (i : ℕ) → i < length found → T (le (centre_at found i) (middle k))

  none_yet : Before 0 []
  none_yet = record {
    rising = record { modest = λ i l. absurd (not-suc-le-zero l); upward = λ i l. absurd (not-suc-le-zero l); inside = λ i l. absurd (not-suc-le-zero l) };
    under = λ i l. absurd (not-suc-le-zero l);
  }

  -- the next window's middle is no earlier
  later : (k : ℕ) {found : List Estimate} → Before k found → Before (k + 1) found
  later k {found} b = record { rising = b.rising; under = λ i l. le_trans (centre_at found i) (middle k) (middle (k + 1)) (b.under i l) (middle-upward k) }

  one_more : (k : ℕ) {found : List Estimate} → ends_at s k ≡ false → Before k found → Before k (found ++ (estimate_from s h (start_of s k) ∷ []))
  one_more k {found} e b =
      let one = estimate_from s h (start_of s k) in
      let is = sym (centre-is k) in
      record {
        rising = record {
          modest = each_more found one no_estimate (λ (x : Estimate). Modest binary64 x.centre) b.rising.modest (subst (Modest binary64) is (middle-modest k e));
          upward = each-pair-more found one no_estimate (λ (x y : Estimate). T (le x.centre y.centre)) b.rising.upward (λ i l. subst (λ (y : Float). T (le (centre_at found i) y)) is (b.under i l));
          inside = each_more found one no_estimate (λ (x : Estimate). T (le x.centre s.duration)) b.rising.inside (subst (λ (x : Float). T (le x s.duration)) is (middle-inside k e));
        };
        under = each_more found one no_estimate (λ (x : Estimate). T (le x.centre (middle k))) b.under (subst (λ (x : Float). T (le x (middle k))) is (le_refl (middle k) (clear→ordered (middle k) (middle-clear k))));
      }

  before-each : (k : ℕ) → ((j : ℕ) → j < k → ends_at s j ≡ false) → Before k (estimates_before s h k)
  unfolding estimates_before
  before-each zero passed = none_yet
  before-each (suc k) passed =
      let here = passed k (omega arith) in
      let b = before-each k (λ (j : ℕ) (l : j < k). passed j (omega arith)) in
      subst (λ (j : ℕ). Before j (estimates_before s h (suc k))) (add-one k)
      (by-test (Before (k + 1)) (silent s h (start_of s k)) (λ _. later k b) (λ _. later k (one_more k here b)))

pub centres-rise : CentresRise
unfolding windows_within
centres-rise s h budget k timed few = (before-each s h timed k (λ (j : ℕ) (l : j < k). first-before (ends_at s) budget 0 j (omega arith) (omega arith))).rising
