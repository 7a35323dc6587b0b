-- From what the checks say to the outcome of the whole call.
use Prim.Native.Nat.{ℕ, min}
use mathlib.Core.Path.{◌≡◌, sym, ap, ap₂, ◌∙◌}
use mathlib.Core.Bool.{Bool, ◌||◌}
use lib.Dec.{ltb}
use lib.ListN.{length}
use Rattle.std.specs.Prelude.{None, Some, Ok, Err}
use Rattle.laws.specs.Table.{any_of}
use Rattle.calls.specs.Call.{Call, positions_of}
use Rattle.calls.specs.Rows.{room_in}
use Rattle.checks.specs.Checks.{Checked, checked}
use Rattle.checks.specs.Refusals.{number_of}
use Rattle.checks.specs.declared.refusal.Refusal.{Refusal}
use Rattle.timeline.specs.Estimates.{estimate_room}
use Rattle.timeline.specs.Segments.{segment_room}
use Rattle.windows.specs.Span.{span_of, rows_asked}
use Rattle.rooms.specs.Lent.{Lent}
use Rattle.rooms.specs.Room.{hasty, too_small}
use Rattle.rooms.proofs.Rooms.{crowded-is}
use Rattle.answers.specs.Answer.{keyless}
use Rattle.loud_frames.specs.Loud.{AnalyseOutcome, analyse_outcome}
use Rattle.positions.specs.Positions.{positions_analysed}
use Rattle.analysis.specs.Analyse.{after_checks, table_of, analysed}
use Rattle.answers.specs.declared.answer.AnalyseResult.{AnalyseResult}

module _ (c : Call) (l : Lent) where
  abbrev positions : ℕ
  positions = positions_of c.settings (length c.samples)

  abbrev asked : ℕ
  asked = rows_asked (span_of c.settings (length c.samples))

  -- row 8's test, from the numbers that the code has
  pub crowded-so : {rows estimates segments places : ℕ} {few : Bool} → rows ≡ room_in l.frames → estimates ≡ estimate_room l.estimates → segments ≡ segment_room l.segments → few ≡ (ltb estimates asked || ltb segments asked) → places ≡ min rows (length l.work) → (few || ltb places positions) ≡ any_of (too_small c.settings (length c.samples) l)
  crowded-so r e s f p =
      ap₂ (λ (a b : Bool). a || b) (f ∙ ap₂ (λ (a b : ℕ). ltb a asked || ltb b asked) e s) (ap (λ (n : ℕ). ltb n positions) (p ∙ ap (λ (n : ℕ). min n (length l.work)) r))
      ∙ crowded-is (room_in l.frames) (length l.work) (estimate_room l.estimates) (segment_room l.segments) positions asked

  -- the table's answer, from a check that was told haste and room
  pub table-says : {flag crowded : Bool} {answer known : Checked} → flag ≡ hasty c.settings → crowded ≡ any_of (too_small c.settings (length c.samples) l) → answer ≡ checked c flag crowded → answer ≡ known → table_of c l ≡ known
  table-says f p e k = sym (ap₂ (checked c) f p) ∙ sym e ∙ k

  pub refused-so : {refusal : Refusal} {n : ℕ} {r : AnalyseResult} → table_of c l ≡ Err refusal → n ≡ number_of refusal → r ≡ keyless n 0 0 → analyse_outcome r l ≡ analysed c l
  refused-so t m e = ap (λ (a : AnalyseResult). analyse_outcome a l) (e ∙ ap (λ (k : ℕ). keyless k 0 0) m) ∙ ap (after_checks c l) (sym t)

  pub empty-so : {r : AnalyseResult} → table_of c l ≡ Ok None → r ≡ keyless 0 0 0 → analyse_outcome r l ≡ analysed c l
  empty-so t e = ap (λ (a : AnalyseResult). analyse_outcome a l) e ∙ ap (after_checks c l) (sym t)

  pub goes_so : {n : ℕ} {o : AnalyseOutcome} → table_of c l ≡ Ok (Some n) → o ≡ positions_analysed c n l → o ≡ analysed c l
  goes_so t e = e ∙ ap (after_checks c l) (sym t)
