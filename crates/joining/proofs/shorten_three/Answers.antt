use Rattle.std.proofs.Common.{arith}
use Rattle.joining.proofs.Fits.{first-fit}
use Rattle.joining.proofs.shorten_three.Goals as goal

pub shorten_records-left-requires : goal.shorten_records-left-requires
shorten_records-left-requires c = (omega arith, first-fit c.fewer-held.result c.args.first c.args.second c.args.third c.requires)
