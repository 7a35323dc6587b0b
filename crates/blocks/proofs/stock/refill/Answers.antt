-- Eight positions are written at once where all their windows are whole, else the one that is asked for.
use native.Mathlib.Omega.{arith}
use mathlib.Core.Path.{sym, ◌∙◌}
use Rattle.constant_q.specs.inside.Powers.{constant_q_rows}
use Rattle.blocks.specs.inside.Stock.{constant_at}
use Rattle.blocks.proofs.Supplies.{one-held, block_held, last-near, inside}
use Rattle.blocks.proofs.stock.refill.Goals as goal

pub overflow_mul-centre : goal.overflow_mul-centre
overflow_mul-centre c = omega (arith, c.requires.1.on c.args.k c.requires.0)

pub overflow_add-centre : goal.overflow_add-centre
overflow_add-centre c = omega (arith, c.requires.1.on c.args.k c.requires.0)

pub are_whole-requires : goal.are_whole-requires
are_whole-requires c = let a = c.args in last-near a.samples.now a.half a.hop a.k c.requires.1 (omega arith)

pub write_chromas-requires : goal.write_chromas-requires
write_chromas-requires c = let a = c.args in (inside a.samples.now a.half a.hop a.k c.requires.1 (omega arith) c.requires.2 (sym c.are_whole.ensures ∙ c.if-are_whole.true), c.requires.3)

pub returns-then-are_whole : goal.returns-then-are_whole
returns-then-are_whole c = let a = c.args in block_held a.samples.now a.half a.hop a.k (constant_q_rows a.lowest a.lengths.now a.coefficients.now a.windows.now) c.write_chromas.ensures

pub constant_q_chroma-requires : goal.constant_q_chroma-requires
constant_q_chroma-requires c = let a = c.args in (c.requires.1.on a.k c.requires.0, c.requires.2.alike, c.requires.2.few, c.requires.2.joined)

pub returns : goal.returns
returns c = let a = c.args in one-held (constant_at (constant_q_rows a.lowest a.lengths.now a.coefficients.now a.windows.now) a.samples.now a.half a.hop) a.k a.block.now c.requires.3 c.constant_q_chroma.ensures
