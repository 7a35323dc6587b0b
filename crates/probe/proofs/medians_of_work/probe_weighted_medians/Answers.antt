-- The leaf where the frames and the room are there.
use borrow.Author.Tests.{ltb-false, eqb-false}
use mathlib.Core.Path.{◌≡◌, refl}
use mathlib.Core.Bool.{false}
use mathlib.Core.List.{[], ◌∷◌}
use native.Mathlib.Omega.{arith}
use Prim.Native.Nat.{ℕ, ◌<◌, ◌≤◌}
use lib.Dec.{eqb, ltb}
use lib.ListN.{length}
use lib.Ieee.{of_bits}
use Rattle.laws.proofs.Table.{none_of}
use Rattle.probe.specs.Medians.{unfit_any}
use Rattle.probe.proofs.medians_of_work.probe_weighted_medians.Goals as goal

-- past the test all is there
fit : (count frames energies work : ℕ) → unfit_any count frames energies work ≡ false → (0 < count) × (count ≤ frames) × (count ≤ energies) × (count ≤ work)
fit count frames energies work t =
    let refused = none_of (eqb count 0 ∷ ltb frames count ∷ ltb energies count ∷ ltb work count ∷ []) t in
    let some = eqb-false count 0 (refused 0) in
    (omega arith, ltb-false frames count (refused 1), ltb-false energies count (refused 2), ltb-false work count (refused 3))

pub returns-then-count-frames : goal.returns-then-count-frames
unfolding of_bits
returns-then-count-frames c = (rw c.if-count-frames.true refl, rw c.if-count-frames.true refl)

pub weighted_medians-values-requires : goal.weighted_medians-values-requires
weighted_medians-values-requires c = let args = c.args in fit args.count (length args.frames.now) (length args.energies.now) (length args.work.now) c.if-count-frames.false

pub returns : goal.returns
returns c = (rw c.if-count-frames.false c.weighted_medians-values.ensures.0, rw c.if-count-frames.false c.weighted_medians-values.ensures.1)
