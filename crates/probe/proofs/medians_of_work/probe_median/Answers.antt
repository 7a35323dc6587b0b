-- The leaf where the values are there.
use borrow.Author.Tests.{ltb-false, eqb-false}
use mathlib.Core.Path.{◌≡◌, refl}
use mathlib.Core.Bool.{false}
use mathlib.Core.List.{[], ◌∷◌}
use native.Mathlib.Omega.{arith}
use Prim.Native.Nat.{ℕ, ◌<◌, ◌≤◌}
use lib.Dec.{eqb, ltb}
use lib.ListN.{length}
use lib.Seq.{length-take-le}
use Rattle.medians.proofs.Zeroed.{zeroed-first}
use lib.Ieee.{of_bits}
use Rattle.laws.proofs.Table.{none_of}
use Rattle.probe.specs.Medians.{unfit}
use Rattle.probe.proofs.medians_of_work.probe_median.Goals as goal

-- past the test the values are there
fit : (count room : ℕ) → unfit count room ≡ false → (0 < count) × (count ≤ room)
fit count room t =
    let refused = none_of (eqb count 0 ∷ ltb room count ∷ []) t in
    let some = eqb-false count 0 (refused 0) in
    (omega arith, ltb-false room count (refused 1))

pub returns-then-count-work : goal.returns-then-count-work
unfolding of_bits
returns-then-count-work c = (rw c.if-count-work.true refl, rw c.if-count-work.true refl)

pub slice_bounds-select-end : goal.slice_bounds-select-end
slice_bounds-select-end c = (fit c.args.count (length c.args.work.now) c.if-count-work.false).1

pub select-requires : goal.select-requires
select-requires c =
    let here = fit c.args.count (length c.args.work.now) c.if-count-work.false in
    omega (arith, here, length-take-le c.args.count c.args.work.now here.1)

pub returns : goal.returns
returns c =
    let here = fit c.args.count (length c.args.work.now) c.if-count-work.false in
    (rw c.if-count-work.false c.select.ensures.median, rw c.if-count-work.false (zeroed-first _ here.1 c.select.ensures.zeroed))
