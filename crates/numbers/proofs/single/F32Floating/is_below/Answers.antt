-- A format's own comparison.
use Rattle.std.specs.Prelude.{refl}
use Rattle.numbers.proofs.single.F32Floating.is_below.Goals as goal

pub returns : goal.returns
returns c = refl
