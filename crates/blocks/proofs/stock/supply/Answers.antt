-- The position is held, or the block is filled from it on.
use Rattle.constant_q.specs.inside.Powers.{constant_q_rows}
use Rattle.blocks.specs.inside.Stock.{constant_at}
use Rattle.blocks.proofs.Supplies.{from-held, from-filled}
use Rattle.blocks.proofs.stock.supply.Goals as goal

pub returns-then-at-held : goal.returns-then-at-held
returns-then-at-held c = let a = c.args in from-held (constant_at (constant_q_rows a.lowest a.lengths.now a.coefficients.now a.windows.now) a.samples.now a.half a.hop) a.k c.requires.3 c.requires.4 c.if-at-held.true

pub returns : goal.returns
returns c = let a = c.args in from-filled (constant_at (constant_q_rows a.lowest a.lengths.now a.coefficients.now a.windows.now) a.samples.now a.half a.hop) a.k c.refill-held.ensures
