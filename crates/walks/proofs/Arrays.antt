-- A local array of elements, lent whole: it is a row while it is lent, and a local's room again at the end.
--     array_row        a local that holds the elements xs is their row.        row_room     a row as long as the local is its room
use mathlib.Core.Path.{◌≡◌, refl}
use Prim.Native.Nat.{ℕ}
use mathlib.Core.List.{List, [], ◌∷◌}
use lib.ListN.{length}
use seplogic.Ra.Ura.{Ura}
use base.Fraction.{full_share}
use mir.Syntax.{Ty, ty_array}
use mir.Val.{Val}
use base.Logic.{ent}
use base.Fml.{fat, fsep}
use types.Logic.{Logic, sem}
use types.Kit.{‵, ◌$◌, ◌∵◌, !, qed, by, move, drop, use1, rewrite, fsplit, fjoin, fpick, fpack, feq_l, feq_i, done}
use types.Share.{arr_parts}
use denote.RattleType.{RattleType}
use denote.Laws.{Is, Makes}
use denote.Memory.{cell_at, lone, part_at, shares, part_of}
use denote.Array.{array_val, in_array, Array, Array-Makes}
use denote.ArrayMemory.{Single, Array-apart, Array-whole}
use denote.Index.{row}
use denote.Steps.{owned}

module _ {M : Type 1} {𝓤 : Ura M} (𝓛 : Logic 𝓤) (R : RattleType) (n b : ℕ) where
  open 𝓛 use {H}

  abbrev τ : Ty
  τ = ty_array (lone R.mir) n

  pub array_row : Single R.mir → Makes 𝓛 R (Is R) → (xs : List R.Denot) (us : List Val) → Is (Array R n) xs (array_val us ∷ []) → ent 𝓤 (sem 𝓛 (fat full_share τ b 0 (array_val us))) (sem 𝓛 (row R full_share xs b 0))
  unfolding part_of
  array_row single makes xs us is =
      qed 𝓛 (‵ (fat full_share τ b 0 (array_val us)) ∷ []) ∵ use1 𝓛 (‵ (cell_at full_share (τ ∷ []) (array_val us ∷ []) b 0)) (𝓛.laws.at_raw full_share τ b 0 (array_val us)) $
      owned ! (Array R n) (Is (Array R n)) (Array-Makes 𝓛 R makes n) xs (array_val us ∷ []) is $ move ! (1 ∷ 0 ∷ []) $ fjoin ! $
      fpack ! (List Val) (λ vs. fsep (cell_at full_share (τ ∷ []) vs b 0) (in_array R.Denot R.own_val n xs vs)) (array_val us ∷ []) $
      use1 𝓛 (‵ ((arr_parts (shares R) n).part full_share xs b 0)) (Array-apart 𝓛 R full_share single n xs b 0) $ fsplit ! $ drop ! $ done !

  pub row_room : (zs : List R.Denot) → length zs ≡ n → ent 𝓤 (sem 𝓛 (row R full_share zs b 0)) (H.room τ b 0)
  unfolding part_of
  row_room zs e =
      qed 𝓛 (‵ (row R full_share zs b 0) ∷ []) ∵ feq_i ! ℕ (length zs) n e $ fjoin ! $ use1 𝓛 (‵ (part_at (Array R n) full_share zs b 0)) (Array-whole 𝓛 R full_share n zs b 0) $
      fpick ! (λ vs. fsplit ! $ move ! (1 ∷ []) $ fpick ! (λ us. fsplit ! $ fsplit ! $ feq_l ! (λ is. move ! (1 ∷ []) $ drop ! $ move ! (1 ∷ []) $
      rewrite ! 0 (λ (ws : List Val). ‵ (cell_at full_share (τ ∷ []) ws b 0)) is refl $ use1 𝓛 (‵ (fat full_share τ b 0 (array_val us))) (𝓛.laws.raw_at full_share τ b 0 (array_val us)) $ move ! (1 ∷ []) $ drop ! $ by ! (𝓛.laws.at_room τ b 0 (array_val us)))))
