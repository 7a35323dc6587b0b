-- Each value over the total.
use Rattle.std.proofs.Common.{rules}
use lib.Ieee.{Float, nan, binary32, div}
use Rattle.whitening.specs.Levels.{divided_by}
use Rattle.whitening.proofs.Mapped.{list-map}
use Rattle.whitening.proofs.levels.divide_by.Goals as goal

pub returns : goal.returns
unfolding divided_by
returns c = list-map _ (λ (x : Float). div binary32 x c.args.total) _ (λ x y q r. search rules) _ _ nan 12 c.map.ensures.items
