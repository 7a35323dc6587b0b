-- A window that begins before the track is not whole; else there is room for it or not.
use mathlib.Core.Path.{refl}
use borrow.Author.Tests.{lt-leb, le-leb}
use Rattle.blocks.specs.inside.Block.{whole_at}
use Rattle.blocks.proofs.block.is_whole.Goals as goal

pub returns-then-centre-half : goal.returns-then-centre-half
unfolding whole_at
returns-then-centre-half c = rw (lt-leb _ _ c.if-centre-half.true) refl

pub returns : goal.returns
unfolding whole_at
returns c = rw (le-leb _ _ c.if-centre-half.false) refl
