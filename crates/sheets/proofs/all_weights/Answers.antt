-- The fold joins the test of each weight.
use lib.Ieee.{of_bits}
use Rattle.std.proofs.Common.{rules}
use Rattle.std.specs.Float.{nan}
use Rattle.laws.proofs.Folds.{every-folded}
use Rattle.sheets.specs.Sheet.{is_weight}
use Rattle.sheets.proofs.all_weights.Goals as goal

pub returns : goal.returns
unfolding of_bits
returns c = every-folded _ _ is_weight nan c.args.weights.now _ (λ a x b q k. search rules) c.iter.ensures.rest c.fold.ensures.ran
