-- What the call ensures, added.
use lib.Ieee.{binary64, add}
use mathlib.Core.Path.{ap}
use Rattle.alternates.proofs.alternate.with_length.Goals as goal

pub returns : goal.returns
returns c = ap (add binary64 c.args.sum) c.held_seconds-length.ensures
