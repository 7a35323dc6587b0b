-- The fold joins the test of each value.
use Rattle.std.proofs.Common.{rules}
use Rattle.std.specs.Float.{nan}
use Rattle.laws.proofs.Folds.{every-folded}
use Rattle.sheets.specs.Sheet.{from_to}
use Rattle.sheets.proofs.all_from_to.Goals as goal

pub returns : goal.returns
returns c = every-folded _ _ (from_to c.args.low c.args.high) nan c.args.values.now _ (λ a x b q k. search rules) c.iter.ensures.rest c.fold.ensures.ran
