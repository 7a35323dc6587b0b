-- A window may pass over the frames behind and those from the stop on: none of them is within, so their turns change nothing.
use Prim.Native.Nat.{ℕ, ◌+◌, ◌-◌, ◌<◌, ◌≤◌}
use mathlib.Core.Path.{◌≡◌, refl, sym, ap, subst, ◌∙◌}
use mathlib.Core.Logic.{inl, inr}
use mathlib.Core.Bool.{Bool, true, false, not, cond, ◌&&◌}
use mathlib.Core.List.{[]}
use native.Mathlib.Nat.{not-suc-le-zero}
use native.Mathlib.Omega.{arith}
use lib.Dec.{T, not_T, T_not}
use lib.ListN.{get_or}
use lib.Ieee.{Float, nan, lt, le}
use Rattle.laws.specs.First.{first}
use Rattle.laws.proofs.Cases.{same_test, lt-or-ge}
use Rattle.laws.proofs.Every.{handed-on}
use Rattle.laws.proofs.First.{first-before, first-or-end, first-within, first-from}
use Rattle.laws.proofs.Order.{le_trans, lt_of_le_of_lt}
use Rattle.laws.proofs.Turns.{turns-start, turns-between}
use Rattle.gathering.specs.Gather.{Heard, heard, with_frame, none_gathered, gather_turn, gathered_of, gathered_after, in_window}
use Rattle.gathering.specs.inside.Ahead.{rises, ahead_of, is_from, first_from, skipped_to, is_past, stop_of, Known}
use Rattle.gathering.specs.declared.ahead.Ahead.{Ahead}
use Rattle.gathering.specs.declared.gather.Gathered.{Gathered}

-- at the first window nothing is behind
pub known_start : (h : Heard) (start : Float) {a : Ahead} → a ≡ ahead_of h.frames h.centres → Known h a start
known_start h start e =
    subst (λ (x : Ahead). Known h x start) (sym e) (record { count = refl; upto = omega arith; behind = λ i l. absurd (not-suc-le-zero l); rising = refl })

module _ {h : Heard} {a : Ahead} {start : Float} (known : Known h a start) where
  -- frames that were skipped are before the start too
  pub known-skip : {next : Ahead} → next ≡ skipped_to a start h.centres → Known h next start
  unfolding first_from
  known-skip e =
      let test = is_from h.centres start in
      let most = first-within test (a.frames - a.from) a.from in
      subst (λ (x : Ahead). Known h x start) (sym e)
      (record {
        count = known.count;
        upto = omega (arith, most, known.upto);
        behind = λ i l. elim (lt-or-ge i a.from) [ inl less ↦ known.behind i less | inr from ↦ first-before test (a.frames - a.from) a.from i from l ];
        rising = known.rising;
      })

  -- what is before a start is before every later one
  pub known-later : {later : Float} → T (le start later) → Known h a later
  known-later {later} onward =
      record {
        count = known.count;
        upto = known.upto;
        behind = λ i l. let centre = get_or h.centres i nan in same_test (le later centre) false (λ t. subst T (known.behind i l) (le_trans start later centre onward t)) (λ n. absurd n);
        rising = known.rising;
      }

-- ---- the walk
not-both : (b c : Bool) → T (not c) → (b && c) ≡ false
not-both b true n = absurd n
not-both true false n = refl
not-both false false n = refl

-- behind the stop no frame is below the end
record Stops (h : Heard) (a : Ahead) (end : Float) (stop : ℕ) : Type 0 where
  low : a.from ≤ stop
  high : stop ≤ h.frames
  past : (k : ℕ) → stop ≤ k → k < h.frames → T (is_past h.centres end k)

module _ {h : Heard} {a : Ahead} {start : Float} (known : Known h a start) (end : Float) where
  -- where the centres rise, a frame that is not below the end hands that on
  past-on : a.rising ≡ true → (i k : ℕ) → is_past h.centres end i ≡ true → i ≤ k → k < h.frames → T (is_past h.centres end k)
  past-on r i k here low high =
      let at : i + (k - i) ≡ k = omega arith in
      let all : T (rises h.frames h.centres) = subst T (sym r ∙ known.rising) tt in
      subst (λ (j : ℕ). T (is_past h.centres end j)) at
      (handed-on le nan h.centres h.frames (λ (x : Float). T (not (lt x end))) all
      (λ x y l p. not_T (lt y end) (λ t. T_not (lt x end) p (lt_of_le_of_lt x y end l t)))
      i (k - i) (omega (arith, high)) (subst T (sym here) tt))

  stops-by : (b : Bool) → a.rising ≡ b → Stops h a end (cond b (first (is_past h.centres end) (a.frames - a.from) a.from) a.frames)
  stops-by true r =
      let test = is_past h.centres end in
      let room = a.frames - a.from in
      let stop = first test room a.from in
      let most = first-within test room a.from in
      record {
        low = first-from test room a.from;
        high = omega (arith, most, known.upto, known.count);
        past = λ k l less. elim (first-or-end test room a.from) [ inl here ↦ past-on r stop k here l less | inr all ↦ absurd (omega (arith, all, l, less, known.upto, known.count)) ];
      }
  stops-by false r = record { low = known.upto; high = omega (arith, known.count); past = λ k l less. absurd (omega (arith, l, less, known.count)) }

  stops : Stops h a end (stop_of a end h.centres)
  unfolding stop_of
  stops = stops-by a.rising refl

  pub stop-within : {stop : ℕ} → stop ≡ stop_of a end h.centres → stop ≤ h.frames
  stop-within at = subst (λ (k : ℕ). k ≤ h.frames) (sym at) stops.high

  -- a frame that is not within changes nothing
  idle : (k : ℕ) (g : Gathered) → in_window start end (get_or h.centres k nan) ≡ false → gather_turn h start end k g ≡ g
  unfolding gather_turn
  idle k g e = ap (λ (b : Bool). cond b (with_frame (get_or h.values k []) g) g) e

  before-start : (k : ℕ) → k < a.from → in_window start end (get_or h.centres k nan) ≡ false
  before-start k l = ap (λ (b : Bool). b && lt (get_or h.centres k nan) end) (known.behind k l)

  pub gathered-all : {stop : ℕ} {g : Gathered} → stop ≡ stop_of a end h.centres → g ≡ gathered_after (heard stop h.centres h.values) a.from start end → g ≡ gathered_of h start end
  unfolding gathered_after gather_turn
  gathered-all {stop} at e =
      let s : Stops h a end stop = subst (Stops h a end) (sym at) stops in
      e
      ∙ turns-between (gather_turn h start end) h.frames a.from stop none_gathered s.low s.high
      (λ k l g. idle k g (before-start k l))
      (λ k l less g. idle k g (not-both (le start (get_or h.centres k nan)) (lt (get_or h.centres k nan) end) (s.past k l less)))
      ∙ sym (turns-start (gather_turn h start end) h.frames none_gathered)
