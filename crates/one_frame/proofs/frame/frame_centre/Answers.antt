-- `frame_centre` meets its contract: std rounds both numbers.
use Rattle.calls.specs.Call.{seconds_at}
use Rattle.std.proofs.Common.{refl}
use Rattle.one_frame.proofs.frame.frame_centre.Goals as goal

pub returns : goal.returns
unfolding seconds_at
returns c = rw (c.nearest_u64_to_f64-2.ensures, c.nearest_u64_to_f64.ensures) refl
