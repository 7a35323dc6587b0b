-- The code's table of profiles is the definition's.
use mathlib.Core.Path.{refl}
use Rattle.scores.specs.Profiles.{profiles, profile_at}
use Rattle.scores.proofs.profiles.profile_at.Goals as goal

pub returns : goal.returns
unfolding profile_at profiles
returns c = refl
