-- The leaf where centre and lists fit.
use mathlib.Core.Path.{◌≡◌, refl, ◌∙◌, ap}
use borrow.Author.Tests.{leb-true, eq-eqb, ne_eqb}
use lib.Dec.{leb}
use lib.ListN.{length}
use lib.Ieee.{of_bits}
use Rattle.probe.proofs.Fitting.{both-passed, not-both, first-passed, rows-fitting}
use Rattle.probe.specs.Filters.{rows_fit}
use mathlib.Core.Bool.{true, ◌&&◌, not}
use mathlib.Core.Path.{sym}
use Rattle.probe.proofs.filters_of_sheet.probe_constant_q.Goals as goal

pub returns-then-not-centre-samples : goal.returns-then-not-centre-samples
unfolding of_bits
returns-then-not-centre-samples c = rw (not-both {x = (leb c.args.centre (length c.args.samples.now))} refl c.rows_fit.ensures (ap not c.if-not-centre-samples.true)) refl

pub joined_length-requires : goal.joined_length-requires
joined_length-requires c =
    let passed : ((leb c.args.centre (length c.args.samples.now)) && rows_fit (length c.args.lengths.now) (length c.args.coefficients.now)) ≡ true = both-passed {x = (leb c.args.centre (length c.args.samples.now))} refl c.rows_fit.ensures (ap not c.if-not-centre-samples.false) in
    let a = c.args in (rows-fitting ((leb c.args.centre (length c.args.samples.now))) (length a.lengths.now) (length a.coefficients.now) (passed)).few

pub returns-then-joined_length-windows : goal.returns-then-joined_length-windows
unfolding of_bits
returns-then-joined_length-windows c =
    let passed : ((leb c.args.centre (length c.args.samples.now)) && rows_fit (length c.args.lengths.now) (length c.args.coefficients.now)) ≡ true = both-passed {x = (leb c.args.centre (length c.args.samples.now))} refl c.rows_fit.ensures (ap not c.if-not-centre-samples.false) in
    rw (passed, ← c.joined_length.ensures, ne_eqb _ _ c.if-joined_length-windows.true) refl

pub constant_q_chroma-values-requires : goal.constant_q_chroma-values-requires
constant_q_chroma-values-requires c =
    let passed : ((leb c.args.centre (length c.args.samples.now)) && rows_fit (length c.args.lengths.now) (length c.args.coefficients.now)) ≡ true = both-passed {x = (leb c.args.centre (length c.args.samples.now))} refl c.rows_fit.ensures (ap not c.if-not-centre-samples.false) in
    let a = c.args in let fit = rows-fitting ((leb c.args.centre (length c.args.samples.now))) (length a.lengths.now) (length a.coefficients.now) (passed) in let near = leb-true _ _ (first-passed ((leb c.args.centre (length c.args.samples.now))) (rows_fit (length a.lengths.now) (length a.coefficients.now)) (passed)) in (near, fit.alike, fit.few, sym c.joined_length.ensures ∙ c.if-joined_length-windows.false)

pub returns : goal.returns
returns c =
    let passed : ((leb c.args.centre (length c.args.samples.now)) && rows_fit (length c.args.lengths.now) (length c.args.coefficients.now)) ≡ true = both-passed {x = (leb c.args.centre (length c.args.samples.now))} refl c.rows_fit.ensures (ap not c.if-not-centre-samples.false) in
    rw (passed, ← c.joined_length.ensures, eq-eqb _ _ c.if-joined_length-windows.false) c.constant_q_chroma-values.ensures
