-- The branches of the alternate key, over the segments that lent columns tell.
use mathlib.Core.Path.{◌≡◌, ap, ◌∙◌}
use mathlib.Core.Bool.{Bool, true, false, ◌||◌}
use Prim.Native.Nat.{ℕ}
use lib.ListN.{length}
use lib.Dec.{eqb}
use lib.Ieee.{Float, le}
use Rattle.std.specs.Prelude.{None}
use Rattle.laws.specs.Values.{plus_zero}
use Rattle.laws.specs.Leader.{Standing}
use Rattle.timeline.specs.inside.Segments.{Stretches, stretches_in}
use Rattle.alternates.specs.Alternate.{instant, total_of, rival_of, named_unless_lacking, alternate_of}
use Rattle.longest.proofs.Rows.{row_count}

module _ (rows : Stretches) (count : ℕ) where
  module _ (reported : ℕ) (threshold : Float) where
    counted : {b : Bool} → (le threshold plus_zero || eqb count 0) ≡ b → (le threshold plus_zero || eqb (length (stretches_in rows count)) 0) ≡ b
    counted e = ap (λ (n : ℕ). le threshold plus_zero || eqb n 0) (row_count rows count) ∙ e

    pub none-asked : (le threshold plus_zero || eqb count 0) ≡ true → None ≡ alternate_of reported threshold (stretches_in rows count)
    unfolding alternate_of
    none-asked e = rw (counted e)

    pub all-instants : (le threshold plus_zero || eqb count 0) ≡ false → {total : Float} → total ≡ total_of (stretches_in rows count) → le total instant ≡ true → None ≡ alternate_of reported threshold (stretches_in rows count)
    unfolding alternate_of
    all-instants e t i = rw (counted e, ← t, i)

    pub rival-named : (le threshold plus_zero || eqb count 0) ≡ false → {total : Float} → total ≡ total_of (stretches_in rows count) → le total instant ≡ false → {rival : Standing Float} → rival ≡ rival_of reported (stretches_in rows count) → named_unless_lacking threshold total rival ≡ alternate_of reported threshold (stretches_in rows count)
    unfolding alternate_of
    rival-named e t i s = rw (counted e, ← t, i, ← s)
