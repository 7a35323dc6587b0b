-- The checks decide, and a call that passes them has what the run needs.
use Prim.Native.Nat.{◌<◌}
use mathlib.Core.Path.{◌≡◌, ap, ◌∙◌}
use mathlib.Core.Bool.{false}
use borrow.Author.Rules.{rules}
use Rattle.std.specs.Prelude.{Some, Ok, Err}
use Rattle.calls.specs.Lent.{call_in, rows_in}
use Rattle.frames.proofs.Passes.{ready}
use Rattle.frames_call.specs.declared.Stop.TheVariants.{Broken}
use Rattle.frames_call.proofs.Outcomes.{verdict, roomy, finished-so}
use Rattle.frames_call.proofs.write_frames.Goals as goal

pub fill_rows-requires : goal.fill_rows-requires
fill_rows-requires c =
    let call = call_in c.args.call in
    let lent = rows_in c.args.rows.now in
    let goes = verdict call lent c.room.ensures c.check.ensures (c.in_ok-positions.was ∙ ap Ok c.in-Some.is) in
    let byte-note : c.args.call.sheet.head.maximum_midi_note < 256 = search rules in
    ready call false _ lent _ byte-note (roomy call lent _ goes) goes

pub returns-in_err-fill_rows-in-Some-clause-outcome : goal.returns-in_err-fill_rows-in-Some-clause-outcome
returns-in_err-fill_rows-in-Some-clause-outcome c =
    let call = call_in c.args.call in
    let lent = rows_in c.args.rows.now in
    let goes = verdict call lent c.room.ensures c.check.ensures (c.in_ok-positions.was ∙ ap Ok c.in-Some.is) in
    let stop : c.from_residual-in_err-fill_rows-in-Some.result ≡ Err (Broken c.in_err-fill_rows-in-Some.field-0.0) = search rules in
    rw stop (finished-so call lent goes c.fill_rows.ensures.run c.in_err-fill_rows-in-Some.was)

pub returns-in_ok-fill_rows-in-Some-clause-outcome : goal.returns-in_ok-fill_rows-in-Some-clause-outcome
returns-in_ok-fill_rows-in-Some-clause-outcome c =
    let call = call_in c.args.call in
    let lent = rows_in c.args.rows.now in
    let goes = verdict call lent c.room.ensures c.check.ensures (c.in_ok-positions.was ∙ ap Ok c.in-Some.is) in
    finished-so call lent goes c.fill_rows.ensures.run c.in_ok-fill_rows-in-Some.was
