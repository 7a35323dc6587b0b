-- √n is above q + 1/2 exactly where n - q * q is above q.
use Rattle.roots.proofs.Squares.{near-above, near-below}
use Rattle.roots.proofs.nearest_root.Goals as goal

pub returns-then-q-n : goal.returns-then-q-n
returns-then-q-n c = near-above _ _ c.requires c.whole_root-q.ensures c.if-q-n.true

pub returns-else-q-n : goal.returns-else-q-n
returns-else-q-n c = near-below _ _ c.requires c.whole_root-q.ensures c.if-q-n.false
