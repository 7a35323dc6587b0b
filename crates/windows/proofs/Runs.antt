-- Laws of the run over windows, which the proof of `fill_estimates` cites: what a window leaves, then the run's start, a turn and its end.
use Rattle.std.proofs.Common.{◌≡◌, ℕ, ◌+◌, ◌<◌, ◌≤◌, Bool, true, false, T, length, sym, refl, ap, ◌∙◌, subst, subst₂, arith, length-append}
use lib.Ieee.{Float, binary64, add, le}
use Rattle.laws.specs.Values.{plus_zero}
use Rattle.laws.proofs.Column.{Column, column-start, column-more}
use Rattle.numbers.specs.Flags.{one_if}
use Rattle.keys.specs.Numbers.{key_number}
use Rattle.windows.specs.Span.{start_of}
use Rattle.gathering.specs.Gather.{Heard}
use Rattle.gathering.specs.inside.Ahead.{ahead_of, skipped_to, Known}
use Rattle.timeline.specs.Estimates.{EstimateRows}
use Rattle.timeline.specs.inside.Estimates.{estimate_rows}
use Rattle.windows.specs.Run.{estimate_from, silent, estimates_before}
use Rattle.windows.specs.inside.Rows.{Written, wrote, window_written, windows_written, Ready}
use Rattle.gathering.specs.declared.ahead.Ahead.{Ahead}
use Rattle.windows.specs.declared.span.Span.{Span}
use Rattle.timeline.specs.declared.estimate.Estimate.{Estimate}
use Rattle.windows.proofs.Found.{after-silent, after-heard}
use Rattle.gathering.proofs.Known.{known_start, known-skip, known-later}
use Rattle.windows.proofs.Starts.{start_first, start-next, start-upward}

-- The n estimates of the windows before k stand in the lent rows.
pub record Holds (s : Span) (h : Heard) (before now : EstimateRows) (k n : ℕ) : Type 0 where
  pub count : n ≡ length (estimates_before s h k)
  pub few : n ≤ k
  pub centres : Column (λ (e : Estimate). e.centre) (estimates_before s h k) before.centres now.centres
  pub keys : Column (λ (e : Estimate). key_number e.key) (estimates_before s h k) before.keys now.keys
  pub confidences : Column (λ (e : Estimate). e.confidence) (estimates_before s h k) before.confidences now.confidences
  pub shapeless : Column (λ (e : Estimate). one_if e.shapeless) (estimates_before s h k) before.shapeless now.shapeless

module _ {s : Span} {h : Heard} {before now : EstimateRows} {k n windows : ℕ} (ready : Ready s h before windows) (inside : k < windows) (holds : Holds s h before now k n) where
  -- of what a window leaves, by whether it is silent
  left_by : (quiet : Bool) → silent s h (start_of s k) ≡ quiet → let w = window_written s h (start_of s k) n now in Holds s h before w.rows (k + 1) w.count
  unfolding window_written
  left_by true q =
      let e = after-silent s h k q in
      rw q (record {
        count = holds.count ∙ ap length (sym e);
        few = omega (arith, holds.few);
        centres = rw e holds.centres;
        keys = rw e holds.keys;
        confidences = rw e holds.confidences;
        shapeless = rw e holds.shapeless;
      })
  left_by false q =
      let e = after-heard s h k q in
      let found = estimate_from s h (start_of s k) in
      rw q (record {
        count = rw e (simp length-append (omega (arith, holds.count)));
        few = omega (arith, holds.few);
        centres = rw e (column-more _ _ found n holds.count (omega (arith, ready.centres, holds.few)) holds.centres);
        keys = rw e (column-more _ _ found n holds.count (omega (arith, ready.keys, holds.few)) holds.keys);
        confidences = rw e (column-more _ _ found n holds.count (omega (arith, ready.confidences, holds.few)) holds.confidences);
        shapeless = rw e (column-more _ _ found n holds.count (omega (arith, ready.shapeless, holds.few)) holds.shapeless);
      })

  holds-next : {start : Float} {m : ℕ} {after : EstimateRows} → start ≡ start_of s k → wrote m after ≡ window_written s h start n now → Holds s h before after (k + 1) m
  holds-next at e = subst (λ (w : Written). Holds s h before w.rows (k + 1) w.count) (sym (e ∙ ap (λ (x : Float). window_written s h x n now) at)) (left_by (silent s h (start_of s k)) refl)

-- The run has come to window k, and the frames behind are before its start.
pub record Reached (s : Span) (h : Heard) (windows : ℕ) (before now : EstimateRows) (a : Ahead) (start : Float) (k n : ℕ) : Type 0 where
  pub ready : Ready s h before windows
  pub known : Known h a start
  pub at : start ≡ start_of s k
  pub upto : k ≤ windows
  pub holds : Holds s h before now k n

pub reached-start : (s : Span) {h : Heard} {windows : ℕ} {before : EstimateRows} {a : Ahead} → Ready s h before windows → a ≡ ahead_of h.frames h.centres → Reached s h windows before before a plus_zero 0 0
unfolding estimates_before
reached-start s {h} {windows} {before} ready all =
    record {
      ready = ready;
      known = known_start h plus_zero all;
      at = start_first s;
      upto = omega arith;
      holds = record {
        count = refl;
        few = omega arith;
        centres = column-start _ _;
        keys = column-start _ _;
        confidences = column-start _ _;
        shapeless = column-start _ _;
      };
    }

module _ {s : Span} {h : Heard} {windows : ℕ} {before now : EstimateRows} {a : Ahead} {start : Float} {k n : ℕ} (reached : Reached s h windows before now a start k n) where
  pub reached-end : windows ≤ k → wrote n now ≡ windows_written s h windows before
  unfolding windows_written
  reached-end all =
      let last : k ≡ windows = omega (arith, all, reached.upto) in
      let held = reached.holds in
      (λ i. wrote (held.count i) (estimate_rows (held.centres.here i) (held.keys.here i) (held.confidences.here i) (held.shapeless.here i)))
      ∙ ap (λ (j : ℕ). windows_written s h j before) last

  -- in a turn, where the frames before the start were skipped
  module _ {next : Ahead} (skipped : next ≡ skipped_to a start h.centres) where
    pub reached-known : Known h next start
    reached-known = known-skip reached.known skipped

    onward : T (le start (add binary64 start s.hop))
    onward = subst₂ (λ (x y : Float). T (le x y)) (sym reached.at) (sym (start-next s k reached.at)) (start-upward s reached.ready.onward k)

    pub reached-again : {m : ℕ} {after : EstimateRows} → k < windows → wrote m after ≡ window_written s h start n now → Reached s h windows before after next (add binary64 start s.hop) (k + 1) m
    reached-again inside written =
        record {
          ready = reached.ready;
          known = known-later reached-known onward;
          at = start-next s k reached.at;
          upto = omega (arith, inside);
          holds = holds-next reached.ready inside reached.holds reached.at written;
        }
