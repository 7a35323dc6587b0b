-- The run over the frame positions: what it leaves is what the analysis of its frames needs, and reads back as the frames it found; a law for each answer.
use mathlib.Core.Path.{◌≡◌, refl, sym, ap, ◌∙◌}
use mathlib.Core.Bool.{Bool, true, false, cond}
use mathlib.Core.List.{List, []}
use Prim.Native.Nat.{ℕ, ◌<◌}
use native.Mathlib.Omega.{arith}
use lib.Dec.{ltb}
use lib.ListN.{length, get_or}
use lib.Ieee.{nan}
use Rattle.std.specs.Prelude.{Ok, Err}
use Rattle.laws.proofs.Front.{list_same, list-own}
use Rattle.laws.proofs.Column.{column-at}
use Rattle.calls.specs.Call.{Call}
use Rattle.calls.specs.Rows.{Rows}
use Rattle.one_frame.specs.declared.frame.Row.{Row}
use Rattle.frames.specs.Run.{loud_before, holding_frames, stop_at}
use Rattle.frames.specs.inside.Rows.{not_finite, Filled, Run, ran, run_of}
use Rattle.frames.proofs.Left.{run-left}
use Rattle.rooms.specs.Lent.{Lent}
use Rattle.rooms.specs.inside.With.{with_frames}
use Rattle.answers.specs.Answer.{keyless}
use Rattle.answers.specs.declared.answer.AnalyseResult.{AnalyseResult}
use Rattle.loud_frames.specs.Loud.{AnalyseOutcome, analyse_outcome, loud_analysed}
use Rattle.loud_frames.specs.inside.Rows.{row_in, frames_in, Stocked}
use Rattle.positions.specs.Positions.{positions_analysed}
use Rattle.positions.specs.inside.Supplied.{Supplied}

frames-read-back : (found : List Row) (before : Rows) → frames_in (holding_frames found before) (length found) ≡ found
frames-read-back found before = list_same (row_in (holding_frames found before)) (λ (i : ℕ). get_or found i d) (length found) same ∙ list-own found d
  where
    d : Row
    d = row_in before 0

    same : (i : ℕ) → i < length found → row_in (holding_frames found before) i ≡ get_or found i d
    same i h = rw (
      column-at (λ (r : Row). r.centre) found before.centres i nan d h,
      column-at (λ (r : Row). r.values) found before.values i [] d h,
      column-at (λ (r : Row). r.energy) found before.energies i nan d h,
    )

-- whether an answer is of a run that was stopped, where, and how many frames it says
abbrev stopped : Filled → Bool
stopped (Ok n) = false
stopped (Err at) = true

abbrev place : ℕ → Filled → ℕ
place k (Ok n) = k
place k (Err at) = at.position

abbrev count_of : Filled → ℕ
count_of (Ok n) = n
count_of (Err at) = at.count

module _ (c : Call) (positions : ℕ) (l : Lent) {filled : Filled} {now : Rows} (run : ran filled now ≡ run_of c positions l.frames) where
  pub stocked-so : {n : ℕ} → filled ≡ Ok n → Supplied c positions l → Stocked c.settings (length c.samples) n (with_frames now l)
  stocked-so {n} all supplied =
      let left = run-left c positions l.frames (sym (ap (λ (f : Filled). ran f now) all) ∙ run) in
      let ready = supplied.prepared.ready in
      record {
        values = left.values;
        energies = left.energies;
        work = omega (arith, left.few, supplied.work);
        prepared =
            record {
              ready = record { onward = ready.onward; timed = left.centres; valued = left.values; centres = ready.centres; keys = ready.keys; confidences = ready.confidences; shapeless = ready.shapeless };
              room = supplied.prepared.room;
              one = supplied.prepared.one;
            };
      }

  abbrev stop : ℕ
  stop = stop_at c positions

  abbrev found : List Row
  found = loud_before c stop

  -- what the run's answer says
  record Says : Type 0 where
    ended : stopped filled ≡ ltb stop positions
    at : place stop filled ≡ stop
    count : count_of filled ≡ length found
    held : now ≡ holding_frames found l.frames

  says : Says
  unfolding run_of
  says =
      record {
        ended = ap (λ (r : Run). stopped r.answer) run ∙ by-stop (ltb stop positions);
        at = ap (λ (r : Run). place stop r.answer) run ∙ at-stop (ltb stop positions);
        count = ap (λ (r : Run). count_of r.answer) run ∙ counted (ltb stop positions);
        held = ap (λ (r : Run). r.rows) run;
      }
    where
      answer : Bool → Filled
      answer b = cond b (Err (not_finite stop (length found))) (Ok (length found))

      by-stop : (b : Bool) → stopped (answer b) ≡ b
      by-stop true = refl
      by-stop false = refl

      at-stop : (b : Bool) → place stop (answer b) ≡ stop
      at-stop true = refl
      at-stop false = refl

      counted : (b : Bool) → count_of (answer b) ≡ length found
      counted true = refl
      counted false = refl

  abbrev held : Lent
  held = with_frames (holding_frames found l.frames) l

  pub not-finite-so : {position n : ℕ} {r : AnalyseResult} → filled ≡ Err (not_finite position n) → r ≡ keyless 9 position n → analyse_outcome r (with_frames now l) ≡ positions_analysed c positions l
  unfolding positions_analysed
  not-finite-so {position} {n} {r} broken e =
      let ended : ltb stop positions ≡ true = sym says.ended ∙ ap stopped broken in
      let at : position ≡ stop = sym (ap (place stop) broken) ∙ says.at in
      let count : n ≡ length found = sym (ap count_of broken) ∙ says.count in
      ap (λ (a : AnalyseResult). analyse_outcome a (with_frames now l)) (e ∙ ap (λ (k : ℕ). keyless 9 k n) at ∙ ap (λ (k : ℕ). keyless 9 stop k) count)
      ∙ ap (λ (rows : Rows). analyse_outcome (keyless 9 stop (length found)) (with_frames rows l)) says.held
      ∙ rw ended

  pub all_so : {n : ℕ} {o : AnalyseOutcome} → filled ≡ Ok n → o ≡ loud_analysed c.settings (length c.samples) (frames_in now n) (with_frames now l) → o ≡ positions_analysed c positions l
  unfolding positions_analysed
  all_so {n} {o} all e =
      let ended : ltb stop positions ≡ false = sym says.ended ∙ ap stopped all in
      let count : n ≡ length found = sym (ap count_of all) ∙ says.count in
      let read : frames_in now n ≡ found = ap (λ (rows : Rows). frames_in rows n) says.held ∙ ap (frames_in (holding_frames found l.frames)) count ∙ frames-read-back found l.frames in
      e
      ∙ ap (λ (x : List Row). loud_analysed c.settings (length c.samples) x (with_frames now l)) read
      ∙ ap (λ (rows : Rows). loud_analysed c.settings (length c.samples) found (with_frames rows l)) says.held
      ∙ rw ended
