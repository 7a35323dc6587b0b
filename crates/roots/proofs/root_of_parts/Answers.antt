-- The pattern put together is the root's, by `proofs/Parts.antt`.
use Rattle.roots.proofs.Parts.{parts-root}
use Rattle.roots.proofs.root_of_parts.Goals as goal

pub returns : goal.returns
returns c =
    parts-root c.args.s c.args.e c.evened.result c.nearest_root.result
    c.requires c.evened.ensures c.nearest_root.ensures
