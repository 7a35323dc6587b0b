-- From what the callees say to the outcome of a call.
use mathlib.Core.Path.{◌≡◌, refl, sym}
use mathlib.Core.Bool.{Bool, true, false, not, ◌||◌}
use mathlib.Core.List.{List, [], ◌∷◌}
use lib.ListN.{length}
use lib.Dec.{eqb, ltb}
use lib.Ieee.{Float}
use borrow.Author.Tests.{eqb-true}
use Rattle.laws.proofs.Table.{none_of}
use Rattle.chroma_calls.specs.FromChroma.{scores_outcome, scores_call}

module _ (chroma places : List Float) where
  abbrev Unfit : Bool → Type 0
  Unfit t = (not (eqb (length chroma) 12) || ltb (length places) 24) ≡ t

  pub unfit : Unfit true → scores_outcome (record { refusal = 18; shapeless = 0 }) places ≡ scores_call chroma places
  unfit t = rw t

  pub twelve : Unfit false → length chroma ≡ 12
  twelve t = eqb-true (length chroma) 12 (flipped (eqb (length chroma) 12) (none_of (not (eqb (length chroma) 12) ∷ ltb (length places) 24 ∷ []) t 0))
    where
      flipped : (b : Bool) → not b ≡ false → b ≡ true
      flipped true e = refl
      flipped false e = sym e
