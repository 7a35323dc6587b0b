-- The callees' definitions, put together.
use Rattle.scores.proofs.scoring.wheel_at.Goals as goal

pub returns : goal.returns
returns c = rw (c.wheel.ensures, c.mean_at.ensures, c.profile_at-profile.ensures)
