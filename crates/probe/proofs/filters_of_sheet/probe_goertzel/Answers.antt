-- The leaf where frame and lists fit.
use mathlib.Core.Path.{◌≡◌, refl, ap}
use borrow.Author.Tests.{leb-true}
use lib.ListN.{length}
use lib.Ieee.{of_bits}
use Rattle.probe.proofs.Fitting.{both-passed, not-both, first-passed, rows-fitting}
use Rattle.probe.specs.Filters.{reaches_to, rows_fit}
use mathlib.Core.Bool.{true, ◌&&◌, not}
use Rattle.probe.proofs.filters_of_sheet.probe_goertzel.Goals as goal

pub returns-then-not-reaches-rows_fit : goal.returns-then-not-reaches-rows_fit
unfolding of_bits
returns-then-not-reaches-rows_fit c = rw (not-both c.reaches.ensures c.rows_fit.ensures (ap not c.if-not-reaches-rows_fit.true)) refl

pub goertzel_chroma-values-requires : goal.goertzel_chroma-values-requires
goertzel_chroma-values-requires c =
    let passed : (reaches_to c.args.start (length c.args.window.now) (length c.args.samples.now) && rows_fit (length c.args.coefficients.now) (length c.args.weights.now)) ≡ true = both-passed c.reaches.ensures c.rows_fit.ensures (ap not c.if-not-reaches-rows_fit.false) in
    let a = c.args in let reached = reaches_to a.start (length a.window.now) (length a.samples.now) in let rows = rows_fit (length a.coefficients.now) (length a.weights.now) in let fit = rows-fitting reached (length a.coefficients.now) (length a.weights.now) (passed) in (leb-true _ _ (first-passed reached rows (passed)), fit.alike, fit.others_few)

pub returns : goal.returns
returns c =
    let passed : (reaches_to c.args.start (length c.args.window.now) (length c.args.samples.now) && rows_fit (length c.args.coefficients.now) (length c.args.weights.now)) ≡ true = both-passed c.reaches.ensures c.rows_fit.ensures (ap not c.if-not-reaches-rows_fit.false) in
    rw (passed) c.goertzel_chroma-values.ensures
