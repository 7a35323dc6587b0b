-- The code's table of means is the definition's, which has the profiles' means.
use Rattle.scores.specs.inside.Constants.{means}
use Rattle.scores.proofs.Constants.{constants-of-profiles}
use Rattle.scores.proofs.profiles.mean_at.Goals as goal

pub returns : goal.returns
unfolding means
returns c = constants-of-profiles.mean c.args.row c.requires
