-- An entry a turn, joined to those before.
use mathlib.Core.Path.{refl, ◌∙◌, ap₂}
use Prim.Native.Nat.{ℕ, suc, ◌+◌, ◌*◌, ◌<◌, ◌≤◌}
use native.Mathlib.Nat.{mul-le-mul_right}
use native.Mathlib.Omega.{arith}
use Rattle.laws.specs.Every.{every}
use Rattle.laws.proofs.Every.{every_more, every-all}
use Rattle.laws.proofs.Column.{entry-there}
use Rattle.stored_analyses.proofs.rows.entries_agree.Goals as goal

-- an entry ends no later than the last
entry-fits : (size n i : ℕ) → i < n → size * i + size ≤ size * n
entry-fits size n i h =
    let most : suc i * size ≤ n * size = mul-le-mul_right size h in
    omega (arith, most)

pub loop-entry-init : goal.loop-entry-init
unfolding every
loop-entry-init g c = (refl, omega arith)

pub agrees-same-requires : goal.agrees-same-requires
agrees-same-requires g c = let fits = entry-fits g.T.Stored.SIZE _ _ c.loop-entry-test.true in omega (arith, fits, c.requires, c.loop-entry.invariant.1)

pub overflow_add-place : goal.overflow_add-place
overflow_add-place g c = let fits = entry-fits g.T.Stored.SIZE _ _ c.loop-entry-test.true in omega (arith, fits, c.requires, c.loop-entry.invariant.1)

pub loop-entry-preserved : goal.loop-entry-preserved
loop-entry-preserved g c =
    let m = g.T.Stored in
    let args = c.args in
    let i = c.loop-entry.entry-index in
    let read = c.entry-item.is ∙ entry-there args.entries.now i _ m.blank c.loop-entry-test.true in
    let told = c.agrees-same.ensures ∙ ap₂ (m.same args.bytes.now) c.loop-entry.invariant.1 read in
    (rw told (every_more _ i c.loop-entry.invariant.0), omega (arith, c.loop-entry.invariant.1))

pub returns : goal.returns
returns g c = every-all _ c.loop-entry.entry-index _ c.loop-entry.invariant.0 (omega arith)
