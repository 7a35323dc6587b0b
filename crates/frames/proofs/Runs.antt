-- Laws of the run over frame positions, which the proof of `fill_rows` cites, a law for each way out of a turn.
use Prim.Native.Nat.{ℕ, ◌+◌, ◌-◌, ◌*◌, ◌/◌, ◌<◌, ◌≤◌}
use mathlib.Core.Path.{◌≡◌, refl, sym, ap, subst, ◌∙◌}
use mathlib.Core.Bool.{Bool, true, false, cond}
use mathlib.Core.List.{List, [], ◌∷◌, ◌++◌}
use native.Mathlib.Nat.{mul-le-mul_right, div-mul-le_self, le_trans, not-suc-le-zero}
use native.Mathlib.Numerals.{add-one}
use native.Mathlib.Omega.{arith}
use borrow.Author.Tests.{lt-ltb, le-ltb}
use lib.Dec.{ltb}
use lib.ListN.{length, length-append}
use lib.Ieee.{Float}
use Rattle.std.specs.Prelude.{Ok, Err}
use Rattle.laws.specs.First.{first}
use Rattle.laws.proofs.First.{first_start, first-again, first_out, first-end}
use Rattle.laws.proofs.Column.{Column, column-start, column-more}
use Rattle.calls.specs.Call.{Call}
use Rattle.calls.specs.Rows.{Rows}
use Rattle.calls.specs.inside.Parts.{rows}
use Rattle.goertzel.specs.Goertzel.{goertzel_of}
use Rattle.goertzel.specs.inside.Rows.{goertzel_rows}
use Rattle.goertzel.proofs.Alone.{goertzel-by-rows}
use Rattle.constant_q.specs.ConstantQ.{constant_q_of}
use Rattle.constant_q.specs.inside.Powers.{constant_q_rows}
use Rattle.constant_q.proofs.Rows.{constant-q-by-rows}
use Rattle.blocks.specs.inside.Stock.{Centred, Tuned, Stock, HandedOut}
use Rattle.blocks.specs.declared.stock.Held.{Held}
use Rattle.blocks.specs.declared.stock.Handed.{Handed}
use Rattle.one_frame.specs.Frame.{loud, middle_of, row_from, row_of, whole}
use Rattle.frames.specs.Run.{energy_at, frame_row, not_finite_at, loud_before, holding_frames, stop_at}
use Rattle.frames.specs.inside.Rows.{put, not_finite, Filled, ran, run_to, run_of, Ready}
use Rattle.one_frame.specs.declared.frame.Row.{Row}

-- a frame position's samples are there
pub frame-fits : {c : Call} {before : Rows} {positions : ℕ} (k : ℕ) → Ready c before positions → k < positions → k * c.settings.hop_size + c.settings.frame_size ≤ length c.samples
frame-fits {c} k ready h =
    let hop = c.settings.hop_size in
    let spare = length c.samples - c.settings.frame_size in
    let at_most : k ≤ spare / hop = omega (arith, ready.many) in
    let fits : k * hop ≤ spare = le_trans (mul-le-mul_right hop at_most) (div-mul-le_self spare hop) in
    omega (arith, ready.enough)

same_rows : {a b : Rows} → a.centres ≡ b.centres → a.values ≡ b.values → a.energies ≡ b.energies → a ≡ b
same_rows p q r = λ i. rows (p i) (q i) (r i)

-- The run has come to position k: the n rows found so far stand in the lent rows, and no earlier position is broken.
pub record Reached (c : Call) (positions : ℕ) (before now : Rows) (k n : ℕ) : Type 0 where
  pub ready : Ready c before positions
  pub count : n ≡ length (loud_before c k)
  pub few : n ≤ k
  pub upto : k ≤ positions
  pub ahead : first (not_finite_at c) (positions - k) k ≡ first (not_finite_at c) positions 0
  pub centres : Column (λ (r : Row). r.centre) (loud_before c k) before.centres now.centres
  pub values : Column (λ (r : Row). r.values) (loud_before c k) before.values now.values
  pub energies : Column (λ (r : Row). r.energy) (loud_before c k) before.energies now.energies

pub reached-start : {c : Call} {positions : ℕ} {before : Rows} → Ready c before positions → Reached c positions before before 0 0
unfolding loud_before
reached-start {c} {positions} {before} ready =
    record {
      ready = ready;
      count = refl;
      few = omega arith;
      upto = omega arith;
      ahead = first_start (not_finite_at c) positions;
      centres = column-start _ _;
      values = column-start _ _;
      energies = column-start _ _;
    }

-- the rows found before the next position, of a quiet frame and of a loud one
after-quiet : (c : Call) (k : ℕ) → loud (energy_at c k) ≡ false → loud_before c (k + 1) ≡ loud_before c k
unfolding loud_before
after-quiet c k q = rw (add-one, loud_before, q)

after-loud : (c : Call) (k : ℕ) → loud (energy_at c k) ≡ true → loud_before c (k + 1) ≡ loud_before c k ++ (frame_row c k ∷ [])
unfolding loud_before
after-loud c k l = rw (add-one, loud_before, l)

-- the two chromas as the code has them, each from its rows of the sheet alone: Goertzel's of the frame that starts at start, constant-Q's at position k
abbrev goertzel_by : Call → ℕ → List Float
goertzel_by c start = let s = c.sheet in goertzel_of (goertzel_rows s.head.minimum_midi_note s.window s.goertzel_coefficients s.goertzel_weights) c.samples start

abbrev pub constant_of : Call → ℕ → List Float
constant_of c k = let s = c.sheet in constant_q_of (constant_q_rows s.head.minimum_midi_note s.constant_q_lengths s.constant_q_coefficients s.constant_q_windows) c.samples (middle_of c.settings (k * c.settings.hop_size))

module _ {c : Call} {positions : ℕ} {before now : Rows} {k n : ℕ} (reached : Reached c positions before now k n) where
  -- what the calls of a turn tell: whether the frame is loud, and whether its row is whole
  pub heard : {energy : Float} {flag answer : Bool} → energy ≡ energy_at c k → flag ≡ loud energy → flag ≡ answer → loud (energy_at c k) ≡ answer
  heard e f t = sym (ap loud e) ∙ sym f ∙ t

  pub row_is : {energy : Float} {constant : List Float} {row : Row} → energy ≡ energy_at c k → constant ≡ constant_of c k
      → row ≡ row_from c.settings (k * c.settings.hop_size) energy (goertzel_by c (k * c.settings.hop_size)) constant → row ≡ frame_row c k
  unfolding frame_row row_of
  row_is e q r =
      let start = k * c.settings.hop_size in
      rw (r, e, q, goertzel-by-rows c.sheet c.samples start, constant-q-by-rows c.sheet c.samples (middle_of c.settings start)) refl

  pub judged : {row : Row} {flag answer : Bool} → row ≡ frame_row c k → flag ≡ whole row → flag ≡ answer → whole (frame_row c k) ≡ answer
  judged e f t = sym (ap whole e) ∙ sym f ∙ t

  pub reached-quiet : k < positions → loud (energy_at c k) ≡ false → Reached c positions before now (k + 1) n
  unfolding not_finite_at
  reached-quiet h q =
      let e = after-quiet c k q in
      record {
        ready = reached.ready;
        count = reached.count ∙ ap length (sym e);
        few = omega arith;
        upto = omega arith;
        ahead = first-again (not_finite_at c) positions k reached.ahead h (rw q);
        centres = rw e reached.centres;
        values = rw e reached.values;
        energies = rw e reached.energies;
      }

  one_more : k < positions → loud (energy_at c k) ≡ true → whole (frame_row c k) ≡ true → Reached c positions before (put (frame_row c k) n now) (k + 1) (n + 1)
  unfolding not_finite_at
  one_more h l w =
      let e = after-loud c k l in
      record {
        ready = reached.ready;
        count = rw e (simp length-append (omega (arith, reached.count)));
        few = omega arith;
        upto = omega arith;
        ahead = first-again (not_finite_at c) positions k reached.ahead h (rw (l, w));
        centres = rw e (column-more _ _ (frame_row c k) n reached.count (omega (arith, reached.ready.centres)) reached.centres);
        values = rw e (column-more _ _ (frame_row c k) n reached.count (omega (arith, reached.ready.values)) reached.values);
        energies = rw e (column-more _ _ (frame_row c k) n reached.count (omega (arith, reached.ready.energies)) reached.energies);
      }

  pub reached-loud : {row : Row} {after : Rows} → row ≡ frame_row c k → after ≡ put row n now → k < positions → loud (energy_at c k) ≡ true → whole (frame_row c k) ≡ true → Reached c positions before after (k + 1) (n + 1)
  reached-loud e a h l w = subst (λ (x : Rows). Reached c positions before x (k + 1) (n + 1)) (sym (a ∙ ap (λ (r : Row). put r n now) e)) (one_more h l w)

  -- what is left where the run ends at k
  left_at : (passed : Bool) → ltb k positions ≡ passed → k ≡ first (not_finite_at c) positions 0 → ran (cond passed (Err (not_finite k n)) (Ok n)) now ≡ run_of c positions before
  unfolding run_of stop_at
  left_at passed t e =
      let found = loud_before c k in
      let answer : cond passed (Err (not_finite k n)) (Ok n) ≡ cond (ltb k positions) (Err (not_finite k (length found))) (Ok (length found)) = cc in
      let left : now ≡ holding_frames found before = same_rows reached.centres.here reached.values.here reached.energies.here in
      ap (λ (a : Filled). ran a now) answer ∙ ap (ran _) left ∙ ap (λ (j : ℕ). run_to c positions j before) e

  pub reached-broken : k < positions → loud (energy_at c k) ≡ true → whole (frame_row c k) ≡ false → ran (Err (not_finite k n)) now ≡ run_of c positions before
  unfolding not_finite_at
  reached-broken h l w = left_at true (lt-ltb _ _ h) (first_out (not_finite_at c) positions k reached.ahead h (rw (l, w)))

  pub reached-end : positions ≤ k → ran (Ok n) now ≡ run_of c positions before
  reached-end h = left_at false (le-ltb _ _ h) (first-end (not_finite_at c) positions k reached.ahead h)

-- ---- the constant-Q chromas computed ahead

-- what the block holds, from a position at k or before it on
pub record Stocked (c : Call) (held : Held) (block : List (List Float)) (k : ℕ) : Type 0 where
  pub stock : Stock (constant_of c) held block
  pub begun : held.first ≤ k

pub stocked-start : (c : Call) {block : List (List Float)} → length block ≡ 8 → Stocked c (record { first = 0; count = 0 }) block 0
stocked-start c long = record { stock = record { long = long; few = omega arith; entries = λ (j : ℕ) (l : j < 0). absurd (not-suc-le-zero l) }; begun = omega arith }

pub stocked-quiet : {c : Call} {held : Held} {block : List (List Float)} {k : ℕ} → Stocked c held block k → Stocked c held block (k + 1)
stocked-quiet {k = k} s = let b = s.begun in record { stock = s.stock; begun = omega arith }

pub stocked-loud : {c : Call} {h : Handed} {block : List (List Float)} {k : ℕ} → HandedOut (constant_of c) k h block → Stocked c h.held block (k + 1)
stocked-loud s = let b = s.begun in record { stock = s.stock; begun = omega arith }

-- every position's centre lies on the track, and the rows are as the supply takes them
pub centred : {c : Call} {before : Rows} {positions : ℕ} → Ready c before positions → Centred (length c.samples) (c.settings.frame_size / 2) c.settings.hop_size positions
centred ready = record { on = λ (k : ℕ) (h : k < _). let fits = frame-fits k ready h in omega arith }

pub tuned : {c : Call} {before : Rows} {positions : ℕ} → Ready c before positions → Tuned c.sheet.constant_q_lengths c.sheet.constant_q_coefficients (length c.sheet.constant_q_windows)
tuned ready = let f = ready.formed in record { alike = f.constant_q_alike; few = f.constant_q_few; joined = sym f.joined }
