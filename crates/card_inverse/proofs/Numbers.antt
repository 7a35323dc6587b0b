-- Which numbers the table gives: none below 20, and not the last where the rules tell that it fails.
use Rattle.std.specs.Prelude.{is_some, Result, Ok, Err}
use mathlib.Core.Path.{◌≡◌, refl, ap, ◌∙◌}
use mathlib.Core.Bool.{Bool, true, false, not, ◌&&◌, ◌||◌}
use mathlib.Core.List.{List, [], ◌∷◌}
use Prim.Native.Nat.{ℕ, ◌≤◌}
use native.Mathlib.Omega.{arith}
use lib.Dec.{eqb, ltb}
use lib.ListN.{length}
use borrow.Author.Tests.{le-ltb}
use Rattle.laws.specs.Table.{Check, ◌gives◌, first_of}
use Rattle.laws.proofs.Front.{length-list}
use Rattle.laws.proofs.Table.{left-failed}
use Rattle.bits.specs.Bits.{bits_of_bytes}
use Rattle.card.specs.Layout.{layout_or1, most_segments}
use Rattle.card.specs.Rules.{card_broken, needless}
use Rattle.card.specs.declared.layout.Layout.{Layout}
use Rattle.card.proofs.Fits.{card-fits}
use Rattle.card.proofs.Known.{found-sound}
use Rattle.card_form.specs.Form.{card_size, number_on, count_on, segment_on, meaning_on, filler_set}
use Rattle.card_reader.specs.declared.judge.CardError.{CardError}
use Rattle.card_reader.specs.declared.judge.CardError.TheVariants.{WrongLength, UnknownLayout, BrokenRule, NeedlessLayout, TooFewRows}
use Rattle.card_reader.specs.Reading.{refusal_number, refused, layout_on, judged_of, read_as, read_of}
use Rattle.card_inverse.specs.Inverse.{RoomForAll}

-- the table, from the tests of its rows
abbrev rows_by : Bool → Bool → Bool → Bool → Bool → Bool → List (Check (Result Layout CardError))
rows_by a b c d e f = (a gives Err WrongLength) ∷ (b gives Err WrongLength) ∷ (c gives Err UnknownLayout) ∷ (d gives Err BrokenRule) ∷ (e gives Err NeedlessLayout) ∷ (f gives Err TooFewRows) ∷ []

-- where the last row never applies with the rules kept, its number is not given
last-unreached : (l : Layout) (a b c d e f : Bool) → (d ≡ false → f ≡ false) → first_of (rows_by a b c d e f) (Ok l) ≡ Err TooFewRows → ⊥
last-unreached l true b c d e f never q = let z : ◌≡◌ {A = ℕ} 20 24 = cc (q) in omega arith
last-unreached l false true c d e f never q = let z : ◌≡◌ {A = ℕ} 20 24 = cc (q) in omega arith
last-unreached l false false true d e f never q = let z : ◌≡◌ {A = ℕ} 21 24 = cc (q) in omega arith
last-unreached l false false false true e f never q = let z : ◌≡◌ {A = ℕ} 22 24 = cc (q) in omega arith
last-unreached l false false false false true f never q = let z : ◌≡◌ {A = ℕ} 23 24 = cc (q) in omega arith
last-unreached l false false false false false true never q = let z : ◌≡◌ {A = ℕ} 0 1 = cc (never refl) in omega arith
last-unreached l false false false false false false never q = let z : ◌≡◌ {A = ℕ} 0 1 = cc (q) in omega arith

-- an error's number, and the error that has the last one
error-number : (error : CardError) → 20 ≤ refusal_number error
error-number WrongLength = omega arith
error-number UnknownLayout = omega arith
error-number BrokenRule = omega arith
error-number NeedlessLayout = omega arith
error-number TooFewRows = omega arith

last-error : (error : CardError) → refusal_number error ≡ 24 → error ≡ TooFewRows
last-error WrongLength e = absurd (omega (arith, e))
last-error UnknownLayout e = absurd (omega (arith, e))
last-error BrokenRule e = absurd (omega (arith, e))
last-error NeedlessLayout e = absurd (omega (arith, e))
last-error TooFewRows e = refl

-- a reading that is refused was judged so
was-judged : (bytes : List ℕ) (rows number : ℕ) (j : Result Layout CardError) → judged_of bytes rows ≡ j → read_as (bits_of_bytes bytes) j ≡ refused number → (error : CardError) × (judged_of bytes rows ≡ Err error) × (refusal_number error ≡ number)
was-judged bytes rows number (Err error) e r = let same : refusal_number error ≡ number = cc (r) in (error, e, same)
was-judged bytes rows number (Ok l) e r = let z : ◌≡◌ {A = ℕ} 0 1 = cc (r) in absurd (omega arith)

judged-refused : (bytes : List ℕ) (rows number : ℕ) → read_of bytes rows ≡ refused number → (error : CardError) × (judged_of bytes rows ≡ Err error) × (refusal_number error ≡ number)
judged-refused bytes rows number = was-judged bytes rows number (judged_of bytes rows) refl

-- no refusal has a number below 20
pub refusal-number : (bytes : List ℕ) (rows number : ℕ) → read_of bytes rows ≡ refused number → 20 ≤ number
refusal-number bytes rows number e = let (error, judged, is) = judged-refused bytes rows number e in omega (arith, error-number error, is)

-- the tests of the first three rows
module _ (bytes : List ℕ) where
  abbrev bits : List ℕ
  bits = bits_of_bytes bytes

  abbrev l : Layout
  l = layout_or1 (layout_on bits)

  abbrev short : Bool
  short = ltb (length bytes) 7

  abbrev other_length : Bool
  other_length = is_some (layout_on bits) && not (eqb (length bytes) (card_size l (count_on l bits)))

  abbrev unknown : Bool
  unknown = not (is_some (layout_on bits))

  abbrev broken : Bool
  broken = card_broken l (meaning_on l bits)

  -- a card that breaks no rule has no more segments than any card
  few_on : broken ≡ false → count_on l bits ≤ most_segments
  few_on good =
      let sound = found-sound (number_on bits) in
      let counted = length-list (segment_on l bits) (count_on l bits) in
      let few = (card-fits l (meaning_on l bits) sound.fits good).header.count in
      omega (arith, few, counted, sound.few)

  roomy : (rows : ℕ) → most_segments ≤ rows → read_of bytes rows ≡ refused 24 → ⊥
  unfolding judged_of
  roomy rows room e =
      let (error, judged, is) = judged-refused bytes rows 24 e in
      last-unreached l short other_length unknown (broken || filler_set l bits) (needless l (meaning_on l bits)) (ltb rows (count_on l bits))
      (λ kept. let few = few_on (left-failed broken (filler_set l bits) kept) in le-ltb rows (count_on l bits) (omega (arith, few, room)))
      (judged ∙ ap Err (last-error error is))

pub room-for-all : RoomForAll
room-for-all = roomy
