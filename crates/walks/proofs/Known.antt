-- A row of which only facts are known, as the invariant of a loop that changes it has it.
--     Known-row        some row of which F holds
--     known            it is taken for the row that stands there.        knowing      a row of which F holds, whatever its elements
use Prim.Native.Nat.{ℕ}
use mathlib.Core.List.{List, ◌∷◌}
use seplogic.Ra.Ura.{Ura}
use base.Logic.{via, guard, guard_i, ex_i}
use base.Fml.{Share}
use types.Logic.{Logic, sem}
use types.Kit.{Item, ‵, some, given, Goal, Seq, Step, use1, pick, learn}
use denote.RattleType.{RattleType}
use denote.Index.{row}

abbrev pub KnownRow : {M : Type 1} (𝓤 : Ura M) (R : RattleType) → Share → ℕ → ℕ → (List R.Denot → Type 0) → Item 𝓤
KnownRow 𝓤 R s b o F = some (λ (zs : List R.Denot). given (F zs) (‵ (row R s zs b o)))

module _ {M : Type 1} {𝓤 : Ura M} {𝓛 : Logic 𝓤} {K : Type 0} {Γ : List (Item 𝓤)} {G : Goal 𝓤 𝓛.H} where
  pub known : K → (R : RattleType) (s : Share) (b o : ℕ) (F : List R.Denot → Type 0) (zs : List R.Denot) → F zs → Step K 𝓛 (KnownRow 𝓤 R s b o F ∷ Γ) G (‵ (row R s zs b o) ∷ Γ) G
  known t R s b o F zs f =
      use1 𝓛 (KnownRow 𝓤 R s b o F) (via 𝓤 _ (guard_i 𝓤 (F zs) _ f) (ex_i 𝓤 (λ (ys : List R.Denot). guard 𝓤 (F ys) (sem 𝓛 (row R s ys b o))) zs))

  pub knowing : K → (R : RattleType) (s : Share) (b o : ℕ) (F : List R.Denot → Type 0) → ((zs : List R.Denot) → F zs → Seq K 𝓛 (‵ (row R s zs b o) ∷ Γ) G) → Seq K 𝓛 (KnownRow 𝓤 R s b o F ∷ Γ) G
  knowing t R s b o F k = pick t (λ zs. learn t (k zs))
