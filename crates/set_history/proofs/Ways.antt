-- The two ways out of a call: refused, with nothing changed, or a card accepted and one place changed.
use mathlib.Core.Path.{◌≡◌, refl, sym, subst}
use mathlib.Core.Bool.{true, false}
use mathlib.Core.List.{List}
use Prim.Native.Nat.{ℕ, ◌<◌}
use Rattle.std.specs.Prelude.{Option, None, Some, Result, Ok, Err}
use native.Mathlib.Omega.{arith}
use lib.Dec.{eqb}
use Rattle.card.specs.declared.layout.Layout.{Layout}
use Rattle.card_reader.specs.declared.judge.CardError.TheVariants.{WrongLength, UnknownLayout, BrokenRule, NeedlessLayout, TooFewRows}
use Rattle.set_places.specs.Places.{places, place_at, lowest_with, found_place}
use Rattle.set_calls.specs.Sets.{CardSet, SetOutcome, unchanged, changed, set_call}
use Rattle.set_calls.specs.inside.Accepted.{set_refusal, accepted_as}
use Rattle.set_calls.specs.declared.SetError.{SetError}
use Rattle.set_calls.specs.declared.SetError.TheVariants.{UntrueSet, Unreadable, TooLong, FullSet, NotInSet}
use Rattle.set_calls.proofs.Accepted.{Accepted, accepted, call_refused, call_missing, call_changed, found}

-- true is not false
pub differ : {A : Type 0} → true ≡ false → A
differ e = let z : ◌≡◌ {A = ℕ} 0 1 = cc in absurd (omega arith)

-- no refusal has the number 0
refused-number : (error : SetError) → eqb (set_refusal error) 0 ≡ false
refused-number UntrueSet = refl
refused-number (Unreadable WrongLength) = refl
refused-number (Unreadable UnknownLayout) = refl
refused-number (Unreadable BrokenRule) = refl
refused-number (Unreadable NeedlessLayout) = refl
refused-number (Unreadable TooFewRows) = refl
refused-number TooLong = refl
refused-number FullSet = refl
refused-number NotInSet = refl

-- ---- the ways
pub data Way (missing : ℕ) (from to card : List ℕ) (s : CardSet) : SetOutcome → Type 0 where
  refused : (number : ℕ) → eqb number 0 ≡ false → Way missing from to card s (unchanged number s)
  done : (l : Layout) → Accepted card s l → lowest_with from s.bytes < places → place_at s.bytes (lowest_with from s.bytes) ≡ from → Way missing from to card s (changed (lowest_with from s.bytes) to s)

pub way : (missing : ℕ) (from to card : List ℕ) (s : CardSet) → eqb missing 0 ≡ false → Way missing from to card s (set_call missing from to card s)
way missing from to card s number = by-card (accepted_as card s) refl
  where
    place : ℕ
    place = lowest_with from s.bytes

    by_place : {l : Layout} → Accepted card s l → (r : Option ℕ) → found_place place ≡ r → Way missing from to card s (set_call missing from to card s)
    by_place a None q = subst (Way missing from to card s) (call_missing card s missing from to a (sym q)) (refused missing number)
    by_place {l} a (Some p) q =
        let f = found from s.bytes (sym q) in
        subst (Way missing from to card s) (call_changed card s missing from to a f) (done l a (omega (arith, f.here, f.inside)) (subst (λ (i : ℕ). place_at s.bytes i ≡ from) f.here f.has))

    by-card : (j : Result Layout SetError) → accepted_as card s ≡ j → Way missing from to card s (set_call missing from to card s)
    by-card (Err error) e = subst (Way missing from to card s) (call_refused card s missing from to e) (refused (set_refusal error) (refused-number error))
    by-card (Ok l) e = by_place (accepted card s e) (found_place place) refl
