-- The leaf where frame, rows and room fit.
use mathlib.Core.Path.{◌≡◌, refl, ap}
use mathlib.Core.Bool.{true, ◌&&◌, not}
use borrow.Author.Tests.{leb-true}
use lib.ListN.{length}
use Rattle.probe.proofs.Fitting.{both-passed, not-both, first-passed, rows-holding}
use Rattle.probe.specs.Filters.{reaches_to, rows_held}
use Rattle.probe.proofs.filters_of_sheet.probe_magnitudes.Goals as goal

pub returns-then-not-reaches-rows_held : goal.returns-then-not-reaches-rows_held
returns-then-not-reaches-rows_held c = rw (not-both c.reaches.ensures c.rows_held.ensures (ap not c.if-not-reaches-rows_held.true)) refl

pub write_magnitudes-requires : goal.write_magnitudes-requires
write_magnitudes-requires c =
    let passed : (reaches_to c.args.start (length c.args.window.now) (length c.args.samples.now) && rows_held (length c.args.coefficients.now) (length c.args.room.now)) ≡ true = both-passed c.reaches.ensures c.rows_held.ensures (ap not c.if-not-reaches-rows_held.false) in
    let a = c.args in
    let reached = reaches_to a.start (length a.window.now) (length a.samples.now) in
    let held = rows-holding reached (length a.coefficients.now) (length a.room.now) (passed) in
    (leb-true _ _ (first-passed reached (rows_held (length a.coefficients.now) (length a.room.now)) (passed)), held.placed, held.few)

pub returns : goal.returns
returns c =
    let passed : (reaches_to c.args.start (length c.args.window.now) (length c.args.samples.now) && rows_held (length c.args.coefficients.now) (length c.args.room.now)) ≡ true = both-passed c.reaches.ensures c.rows_held.ensures (ap not c.if-not-reaches-rows_held.false) in
    rw (passed, c.write_magnitudes.ensures) refl
