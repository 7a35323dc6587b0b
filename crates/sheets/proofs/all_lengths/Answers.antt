-- The fold joins the test of each length.
use Rattle.std.proofs.Common.{rules}
use Rattle.laws.proofs.Folds.{every-folded}
use Rattle.sheets.specs.Sheet.{is_length}
use Rattle.sheets.proofs.all_lengths.Goals as goal

pub returns : goal.returns
returns c = every-folded _ _ (is_length c.args.rate) 0 c.args.lengths.now _ (λ a x b q k. search rules) c.iter.ensures.rest c.fold.ensures.ran
