-- From what the checks and the run say to the outcome of `ulyptesh_frames`.
use Prim.Native.Nat.{ℕ, ◌≤◌}
use mathlib.Core.Path.{◌≡◌, refl, sym, ap, ◌∙◌}
use mathlib.Core.Bool.{Bool, true, false, cond}
use native.Mathlib.Omega.{arith}
use borrow.Author.Tests.{ltb-false}
use lib.Dec.{ltb}
use lib.ListN.{length}
use Rattle.std.specs.Prelude.{Result, None, Some, Ok, Err}
use Rattle.calls.specs.Call.{Call, positions_of}
use Rattle.calls.specs.Rows.{Rows, room_in}
use Rattle.checks.specs.Checks.{Checked, checked}
use Rattle.checks.specs.declared.refusal.Refusal.{Refusal}
use Rattle.checks.proofs.Passed.{passed}
use Rattle.frames.specs.Run.{loud_before, holding_frames, stop_at}
use Rattle.frames.specs.inside.Rows.{not_finite, Filled, Run, ran, run_of}
use Rattle.frames_call.specs.FramesOnly.{frames_result, frames_outcome, frames_found, frames_after, frames_table, frames_only}
use Rattle.frames_call.specs.inside.Answered.{answered}
use Rattle.frames_call.specs.declared.FramesResult.{FramesResult}
use Rattle.frames_call.specs.declared.Stop.{Stop}
use Rattle.frames_call.specs.declared.Stop.TheVariants.{Refused, Broken}

-- a run's answer as the call has it
abbrev pub by_run : Filled → Result ℕ Stop
by_run (Ok n) = Ok n
by_run (Err at) = Err (Broken at)

module _ (c : Call) (lent : Rows) where
  -- the table's answer, from a check that was told the room
  pub verdict : {places : ℕ} {answer known : Checked} → places ≡ room_in lent → answer ≡ checked c false (ltb places (positions_of c.settings (length c.samples))) → answer ≡ known → frames_table c lent ≡ known
  verdict p e k = ap (λ (n : ℕ). checked c false (ltb n (positions_of c.settings (length c.samples)))) (sym p) ∙ sym e ∙ k

  -- and a call that passes has a row to each position
  pub roomy : (positions : ℕ) → frames_table c lent ≡ Ok (Some positions) → positions ≤ room_in lent
  roomy positions e =
      let all = positions_of c.settings (length c.samples) in
      let p = passed c false (ltb (room_in lent) all) positions e in
      omega (arith, p.many, ltb-false (room_in lent) all p.roomy)

  pub refused-so : {refusal : Refusal} → frames_table c lent ≡ Err refusal → frames_outcome (answered (Err (Refused refusal))) lent ≡ frames_only c lent
  refused-so v = ap (frames_after c lent) (sym v)

  pub empty-so : frames_table c lent ≡ Ok None → frames_outcome (answered (Ok 0)) lent ≡ frames_only c lent
  empty-so v = ap (frames_after c lent) (sym v)

  -- the run's answer by whether it was stopped
  by-stop : (stopped : Bool) (k n : ℕ) → answered (by_run (cond stopped (Err (not_finite k n)) (Ok n))) ≡ cond stopped (frames_result 9 k n) (frames_result 0 0 n)
  by-stop true k n = refl
  by-stop false k n = refl

  ran-found : (positions : ℕ) → let run = run_of c positions lent in frames_outcome (answered (by_run run.answer)) run.rows ≡ frames_found c positions lent
  unfolding run_of frames_found
  ran-found positions =
      let k = stop_at c positions in
      let found = loud_before c k in
      ap (λ (a : FramesResult). frames_outcome a (holding_frames found lent)) (by-stop (ltb k positions) k (length found))

  pub finished-so : {positions : ℕ} {filled known : Filled} {left : Rows} → frames_table c lent ≡ Ok (Some positions) → ran filled left ≡ run_of c positions lent → filled ≡ known → frames_outcome (answered (by_run known)) left ≡ frames_only c lent
  finished-so {positions} {left = left} v f k =
      ap (λ (a : Filled). frames_outcome (answered (by_run a)) left) (sym k)
      ∙ ap (λ (run : Run). frames_outcome (answered (by_run run.answer)) run.rows) f
      ∙ ran-found positions
      ∙ ap (frames_after c lent) (sym v)
