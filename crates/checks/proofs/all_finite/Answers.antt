-- `all_finite` is its definition, by its callee.
use Rattle.checks.specs.Checks.{all_finite}
use Rattle.checks.proofs.all_finite.Goals as goal

pub returns : goal.returns
unfolding all_finite
returns c = cc
