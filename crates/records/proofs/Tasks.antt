-- The parameters of the functions over records, and what each function does, as the walks and their callers have it.
--     double, truth, segment    an f64, a bool and a Segment, as parameters
use mathlib.Core.Path.{◌≡◌, refl}
use Prim.Native.Nat.{◌+◌, ◌-◌, ◌^◌, ◌≤◌, ◌<◌}
use mathlib.Core.List.{[], ◌∷◌, List}
use lib.ListN.{length, take}
use lib.Dec.{T as Holds}
use lib.Ieee.{binary64}
use seplogic.Ra.Ura.{Ura}
use mir.Val.{Val, has_ty, WT}
use types.Logic.{Logic}
use denote.RattleType.{RattleType}
use denote.Builtin.{f64, bool}
use denote.Plain.{bool_vals, bool_Tells, bool_Makes}
use denote.Floats.{float_vals, float_Tells, float_Makes}
use denote.Laws.{Is}
use denote.Struct.Laws as LL
use Rattle.timeline.specs.declared.segment.Segment.{Segment}
use Rattle.timeline.specs.Segments.{emptied, short, joined}
use Rattle.timeline.specs.Counts.{total_windows}
use Rattle.timeline.specs.inside.Segments.{Joinable}
use Rattle.timeline.specs.contracts.segment.Segment as T
use Rattle.timeline.proofs.segment.Segment.TheLaws as T'
use Rattle.shortening.specs.Shorten.{first_short, keeper}
use Rattle.records.specs.inside.Steps.{moved_down, copied_down, JoinableAt, joined_at, joined_records, place_after, kept_place}
use Rattle.records.specs.Records.{left, shortened_in}
use Rattle.walks.proofs.Plain.{Plain, number}
use Rattle.walks.proofs.Rows.{Task, Change}
use Rattle.walks.proofs.Looks.{Look}
use Rattle.walks.proofs.Values.{Value, naught, that}
use Rattle.walks.proofs.Elements.{Element, Read, Write}

abbrev pub R : RattleType
R = T.the_row

abbrev pub vals : Segment → List Val
vals = LL.vals T.the_type T'.the_laws

abbrev pub val : Segment → Val
val = LL.val T.the_type T'.the_laws

abbrev pub double : Plain
double = record { type = f64; vals = float_vals binary64; tells = float_Tells binary64; ends = λ _. tt; quiet = λ x f. refl; makes = λ M 𝓤 𝓛. float_Makes 𝓛 binary64 }

abbrev pub truth : Plain
truth = record { type = bool; vals = bool_vals; tells = bool_Tells; ends = λ _. tt; quiet = λ x f. refl; makes = λ M 𝓤 𝓛. bool_Makes 𝓛 }

abbrev pub segment : Plain
segment = record { type = R; vals = vals; tells = LL.tells T.the_type T'.the_laws; ends = λ _. tt; quiet = λ x f. refl; makes = λ M 𝓤 𝓛. LL.makes T.the_type T'.the_plain 𝓛 }

-- a Segment as the element of a slice
abbrev pub element : Element
element = record { plain = segment; val = val; one = λ x. refl; past = emptied; copied = λ M 𝓤 𝓛. LL.copied T.the_type T'.the_copy 𝓛 }

-- the machine value of a record has the record's MIR type
pub typed : {M : Type 1} {𝓤 : Ura M} → (𝓛 : Logic 𝓤) → (x : Segment) → Is R x (vals x) → Holds (has_ty T'.mir (val x)) × WT (val x)
typed {𝓤 = 𝓤} 𝓛 x is = ((LL.lawful T.the_type T'.the_laws 𝓛).typed x _ is).0

-- ---- one record
abbrev pub RecordAt : Look R
RecordAt = Read element

abbrev pub PutRecord : Change R
PutRecord = Write element

abbrev pub CopyDown : Change R
CopyDown = record { params = number ∷ []; asks = λ κs ys a. a.0 + 1 < length ys; becomes = λ κs ys a. copied_down a.0 ys }

-- ---- a join
abbrev pub JoinSegments : Value
JoinSegments = record { params = segment ∷ segment ∷ []; result = segment; asks = that (λ a. Joinable a.0 a.1.0); is = λ a. joined a.0 a.1.0 }

abbrev pub EmptiedSegment : Value
EmptiedSegment = record { params = []; result = segment; asks = naught; is = λ _. emptied }

abbrev pub JoinAt : Change R
JoinAt = record { params = number ∷ []; asks = λ κs ys a. (a.0 + 1 < length ys) × JoinableAt a.0 ys; becomes = λ κs ys a. joined_at a.0 ys }

abbrev pub CloseGap : Change R
CloseGap = record { params = number ∷ number ∷ []; asks = λ κs ys a. (a.0 < a.1.0) × (a.1.0 ≤ length ys); becomes = λ κs ys a. moved_down a.0 a.1.0 emptied ys }

abbrev pub JoinRecords : Change R
JoinRecords = record { params = number ∷ number ∷ []; asks = λ κs ys a. (a.0 + 1 < a.1.0) × (a.1.0 ≤ length ys) × JoinableAt a.0 ys; becomes = λ κs ys a. joined_records a.0 a.1.0 ys }

-- ---- which ones join
abbrev pub IsShort : Value
IsShort = record { params = double ∷ segment ∷ []; result = truth; asks = naught; is = λ a. short a.0 a.1.0 }

abbrev pub FirstShort : Look R
FirstShort = record { params = double ∷ number ∷ []; result = number; asks = λ κs ys a. a.1.0 ≤ length ys; promises = λ κs ys a r. r ≡ first_short a.0 (take a.1.0 ys) }

abbrev pub PlaceBefore : Value
PlaceBefore = record { params = number ∷ []; result = number; asks = naught; is = λ a. a.0 - 1 }

abbrev pub PlaceAfter : Value
PlaceAfter = record { params = number ∷ number ∷ []; result = number; asks = naught; is = λ a. place_after a.0 a.1.0 }

abbrev pub KeptPlace : Value
KeptPlace = record { params = number ∷ number ∷ number ∷ segment ∷ segment ∷ []; result = number; asks = naught; is = λ a. kept_place a.0 a.1.0 a.1.1.0 a.1.1.1.0 a.1.1.1.1.0 }

abbrev pub KeeperOf : Look R
KeeperOf = record { params = number ∷ number ∷ []; result = number; asks = λ κs ys a. (a.0 < a.1.0) × (a.1.0 ≤ length ys); promises = λ κs ys a r. r ≡ keeper (take a.1.0 ys) a.0 }

-- ---- all of it
abbrev pub ShortenRecords : Task R
ShortenRecords = record { params = double ∷ number ∷ []; result = number; asks = λ κs ys a. (a.1.0 ≤ length ys) × (total_windows (take a.1.0 ys) < 2 ^ 32); promises = λ κs ys a r zs. left r zs ≡ shortened_in a.0 a.1.0 ys }
