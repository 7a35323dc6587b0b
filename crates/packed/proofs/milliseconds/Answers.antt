-- The whole thousandths of the seconds. Written out, though the search finds it: so a wrong rounding is refused at its value.
use Rattle.packed.proofs.milliseconds.Goals as goal

pub returns : goal.returns
returns c = c.whole_times.ensures
