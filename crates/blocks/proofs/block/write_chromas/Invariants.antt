-- A row a turn, added to all eight.
use mathlib.Core.Path.{◌≡◌}
use Rattle.sheets.specs.Sheet.{joined_length}
use Rattle.constant_q.specs.inside.Powers.{constant_q_rows}
use Rattle.blocks.proofs.Chromas.{block_after}
use Rattle.blocks.proofs.block.write_chromas.Given as goal

abbrev pub invariant-loop-k : goal.invariant-loop-k
invariant-loop-k l = (l.first ≡ joined_length l.lengths l.k) × (l.block ≡ block_after (constant_q_rows l.lowest l.lengths l.coefficients l.windows) l.samples l.centre l.hop l.k)
