-- What the functions by value do, as the walk has it.
--     threes       a Three, as a parameter
use mathlib.Core.Path.{refl}
use Prim.Native.Nat.{min, ◌^◌, ◌<◌}
use mathlib.Core.List.{[], ◌∷◌}
use lib.Dec.{T as Holds}
use seplogic.Ra.Ura.{Ura}
use mir.Val.{Val, has_ty, WT}
use types.Logic.{Logic}
use denote.Laws.{Is}
use denote.Struct.Laws as LL
use Rattle.joining.specs.declared.Three.{Three}
use Rattle.joining.specs.Threes.{three, windows_of_three, shortened_three}
use Rattle.joining.specs.contracts.Three as T
use Rattle.joining.proofs.Three.TheLaws as T'
use Rattle.walks.proofs.Plain.{Plain, number}
use Rattle.walks.proofs.Values.{Value, naught, that}
use Rattle.records.proofs.Tasks.{double, segment}

abbrev pub threes : Plain
threes = record { type = T.the_row; vals = LL.vals T.the_type T'.the_laws; tells = LL.tells T.the_type T'.the_laws; ends = λ _. tt; quiet = λ x f. refl; makes = λ M 𝓤 𝓛. LL.makes T.the_type T'.the_plain 𝓛 }

abbrev pub three_val : Three → Val
three_val = LL.val T.the_type T'.the_laws

-- its machine value has its MIR type
pub three-typed : {M : Type 1} {𝓤 : Ura M} → (𝓛 : Logic 𝓤) → (x : Three) → Is T.the_row x (three_val x ∷ []) → Holds (has_ty T'.mir (three_val x)) × WT (three_val x)
three-typed {𝓤 = 𝓤} 𝓛 x is = ((LL.lawful T.the_type T'.the_laws 𝓛).typed x _ is).0

abbrev pub Fewer : Value
Fewer = record { params = number ∷ number ∷ []; result = number; asks = naught; is = λ a. min a.0 a.1.0 }

abbrev pub ThreeOf : Value
ThreeOf = record { params = number ∷ segment ∷ segment ∷ segment ∷ []; result = threes; asks = naught; is = λ a. three a.0 a.1.0 a.1.1.0 a.1.1.1.0 }

abbrev pub ShortenThree : Value
ShortenThree = record { params = double ∷ number ∷ segment ∷ segment ∷ segment ∷ []; result = threes; asks = that (λ a. windows_of_three a.1.1.0 a.1.1.1.0 a.1.1.1.1.0 < 2 ^ 32); is = λ a. shortened_three a.0 (three a.1.0 a.1.1.0 a.1.1.1.0 a.1.1.1.1.0) }
