-- Each value by itself.
use Rattle.std.proofs.Common.{rules}
use lib.Ieee.{nan}
use Rattle.whitening.specs.Levels.{whitened, whitened_of}
use Rattle.whitening.proofs.Mapped.{list-map}
use Rattle.whitening.proofs.levels.whiten_chroma.Goals as goal

pub returns : goal.returns
unfolding whitened_of
returns c = list-map _ whitened _ (λ x y q r. search rules) _ _ nan 12 c.map.ensures.items
