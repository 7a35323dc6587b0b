-- A row a turn, added to all eight.
use native.Mathlib.Omega.{arith}
use Prim.Native.Nat.{ℕ}
use mathlib.Core.Path.{refl, sym, ap, ◌∙◌}
use Rattle.sheets.specs.Sheet.{joined_length}
use Rattle.constant_q.specs.inside.Powers.{constant_q_rows}
use Rattle.constant_q.specs.declared.powers.Placed.{Placed}
use Rattle.blocks.proofs.Chromas.{row_lies, block_start, block-long, block_more, block-end}
use Rattle.blocks.proofs.block.write_chromas.Goals as goal

pub loop-k-init : goal.loop-k-init
unfolding joined_length
loop-k-init c = let a = c.args in (refl, block_start (constant_q_rows a.lowest a.lengths.now a.coefficients.now a.windows.now) a.samples.now a.centre a.hop c.clear.ensures)

pub place-placed-requires : goal.place-placed-requires
place-placed-requires c = let inside = c.requires.0 in let near = inside.near in (record { near = omega arith; tuned = inside.tuned; joined = inside.joined }, c.loop-k-test.true, c.loop-k.invariant.0)

pub eight_powers-powers-requires : goal.eight_powers-powers-requires
eight_powers-powers-requires c =
    let a = c.args in
    rw (ap (λ (x : Placed). x.lane) c.place-placed.ensures) (row_lies (constant_q_rows a.lowest a.lengths.now a.coefficients.now a.windows.now) a.samples.now a.centre a.hop c.requires.0 (λ (k : ℕ). omega (arith, c.type_inv.lengths k)) c.loop-k.k c.loop-k-test.true)

pub add_row-requires : goal.add_row-requires
add_row-requires c = let inside = c.requires.0 in let few = inside.few in let turn = c.loop-k in let a = c.args in (omega (arith, c.loop-k-test.true), block-long (constant_q_rows a.lowest a.lengths.now a.coefficients.now a.windows.now) a.samples.now a.centre a.hop turn.k turn.invariant.1)

pub loop-k-preserved : goal.loop-k-preserved
loop-k-preserved c =
    let a = c.args in
    let turn = c.loop-k in
    let placed = c.place-placed.ensures in
    let lane = ap (λ (x : Placed). x.lane) placed in
    let more = block_more (constant_q_rows a.lowest a.lengths.now a.coefficients.now a.windows.now) a.samples.now a.centre a.hop c.requires.0 turn.k c.loop-k-test.true lane c.eight_powers-powers.ensures turn.invariant.1 c.add_row.ensures in
    (ap (λ (x : Placed). x.next) placed, more)

pub shape_of-block : goal.shape_of-block
shape_of-block c = let last = c.loop-k in let a = c.args in block-long (constant_q_rows a.lowest a.lengths.now a.coefficients.now a.windows.now) a.samples.now a.centre a.hop last.k last.invariant.1 ∙ sym c.requires.1

pub returns : goal.returns
returns c = let last = c.loop-k in block-end _ _ _ _ last.k last.invariant.1 (omega arith)
