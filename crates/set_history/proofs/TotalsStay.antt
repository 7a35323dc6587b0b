-- A changed set is true again: its places stay sound, and its numbers are its own by the definition of the call.
use mathlib.Core.Path.{◌≡◌, refl, sym, ap, subst, ◌∙◌}
use mathlib.Core.Bool.{Bool, true, false}
use mathlib.Core.List.{List, [], ◌∷◌}
use mathlib.Core.Logic.{inl, inr}
use Prim.Native.Nat.{ℕ, ◌<◌}
use native.Mathlib.Omega.{arith}
use lib.Dec.{T, eqb}
use lib.ListN.{length, get_or, replicate, length-replicate}
use borrow.Author.Tests.{eqb-true, eqb-false}
use Rattle.laws.specs.Every.{any_below}
use Rattle.laws.proofs.Cases.{lt-or-ge}
use Rattle.laws.proofs.Every.{any_of, any_at}
use Rattle.laws.proofs.Front.{list_same, replicate-list, length-list, get_or-list}
use Rattle.card.specs.declared.layout.Layout.{Layout}
use Rattle.set_places.specs.Places.{places, place_size, set_size, place_at, card_in, read_whole, spoilt, any_spoilt, in_place, placed}
use Rattle.laws.proofs.Sums.{sum-limited}
use Rattle.set_places.proofs.Zeros.{length-in-place, get_d_beyond}
use Rattle.set_places.proofs.Changed.{length-placed, place_same, place_other}
use Rattle.set_places.proofs.InPlace.{sound-in-place, free-sound, zeros-free}
use Rattle.set_totals.specs.Summary.{summary_of, numbers_of}
use Rattle.set_totals.specs.inside.Numbers.{summary_numbers, read_number}
use Rattle.set_totals.proofs.Tallied.{place_number, sum_over, numbers-are, sum-of-days}
use Rattle.set_totals.proofs.Exchanged.{free-gives}
use Rattle.set_calls.specs.Sets.{CardSet, SetOutcome, summed_set}
use Rattle.set_calls.proofs.Accepted.{Accepted}
use Rattle.set_calls.proofs.Truth.{TrueSet, true-set, of-true}
use Rattle.set_history.specs.Calls.{SetCall, adding, removing, set_outcome_of, is_done, after_all}
use Rattle.set_history.specs.TotalsStay.{Summed, empty_set, TotalsStay, TotalsFit}
use Rattle.set_history.proofs.Ways.{Way, refused, done, way, differ}

-- ---- places that are sound
sound-at : (set : List ℕ) → any_spoilt set ≡ false → (i : ℕ) → i < places → spoilt (place_at set i) ≡ false
unfolding any_spoilt
sound-at set none i h = either (spoilt (place_at set i)) refl
  where
    either : (b : Bool) → spoilt (place_at set i) ≡ b → spoilt (place_at set i) ≡ false
    either true e = absurd (subst T none (any_of (λ (j : ℕ). spoilt (place_at set j)) places i h (subst T (sym e) tt)))
    either false e = e

all_sound : (set : List ℕ) → ((i : ℕ) → i < places → spoilt (place_at set i) ≡ false) → any_spoilt set ≡ false
unfolding any_spoilt
all_sound set each = either (any_below (λ (j : ℕ). spoilt (place_at set j)) places) refl
  where
    either : (b : Bool) → any_below (λ (j : ℕ). spoilt (place_at set j)) places ≡ b → b ≡ false
    either true e = let found = any_at (λ (j : ℕ). spoilt (place_at set j)) places (subst T (sym e) tt) in absurd (subst T (each found.0 found.1) found.2)
    either false e = refl

-- ---- one place changed to a sound content
changed-true : (s : CardSet) → TrueSet s → (i : ℕ) → i < places → (content : List ℕ) → length content ≡ place_size → spoilt content ≡ false → TrueSet (summed_set (placed i content s.bytes))
changed-true s t i inside content size sound =
    record {
      whole = length-placed s.bytes i t.whole inside content size;
      sound = all_sound (placed i content s.bytes) (λ j h. either j h (eqb j i) refl);
      summed = refl;
    }
  where
    either : (j : ℕ) → j < places → (b : Bool) → eqb j i ≡ b → spoilt (place_at (placed i content s.bytes) j) ≡ false
    either j h true e = ap (λ (k : ℕ). spoilt (place_at (placed i content s.bytes) k)) (eqb-true j i e) ∙ ap spoilt (place_same s.bytes i t.whole inside content size) ∙ sound
    either j h false e = ap spoilt (place_other s.bytes i t.whole inside content size j (eqb-false j i e)) ∙ sound-at s.bytes t.sound j h

-- ---- a call, by its way out
-- what is put into a place is as long as one, and sound
abbrev Fit : List ℕ → List ℕ → CardSet → Type 0
Fit to card s = (l : Layout) → Accepted card s l → (length to ≡ place_size) × (spoilt to ≡ false)

module _ {missing : ℕ} {from to card : List ℕ} {s : CardSet} where
  left-true : {o : SetOutcome} → Way missing from to card s o → Fit to card s → TrueSet s → TrueSet o.left
  left-true (refused number n) fit t = t
  left-true (done l a inside has) fit t = changed-true s t _ inside to (fit l a).0 (fit l a).1

  done-true : {o : SetOutcome} → Way missing from to card s o → Fit to card s → is_done o ≡ true → TrueSet o.left
  done-true (refused number n) fit d = differ (sym d ∙ n)
  done-true (done l a inside has) fit d = changed-true s a.set _ inside to (fit l a).0 (fit l a).1

  pub refused-same : {o : SetOutcome} → Way missing from to card s o → is_done o ≡ false → o.left ≡ s
  refused-same (refused number n) d = refl
  refused-same (done l a inside has) d = differ d

add-fits : (card : List ℕ) (s : CardSet) → Fit (in_place card) card s
add-fits card s l a = (length-in-place card a.fits, sound-in-place card l a.fits a.readable)

remove-fits : (card : List ℕ) (s : CardSet) → Fit (in_place []) card s
remove-fits card s l a = (length-in-place [] (omega arith), free-sound)

pub call-true : (c : SetCall) (s : CardSet) → TrueSet s → TrueSet (set_outcome_of c s).left
call-true (adding card) s t = left-true (way 31 (in_place []) (in_place card) card s refl) (add-fits card s) t
call-true (removing card) s t = left-true (way 32 (in_place card) (in_place []) card s refl) (remove-fits card s) t

call-done : (c : SetCall) (s : CardSet) → is_done (set_outcome_of c s) ≡ true → TrueSet (set_outcome_of c s).left
call-done (adding card) s d = done-true (way 31 (in_place []) (in_place card) card s refl) (add-fits card s) d
call-done (removing card) s d = done-true (way 32 (in_place card) (in_place []) card s refl) (remove-fits card s) d

call_refused : (c : SetCall) (s : CardSet) → is_done (set_outcome_of c s) ≡ false → (set_outcome_of c s).left ≡ s
call_refused (adding card) s d = refused-same (way 31 (in_place []) (in_place card) card s refl) d
call_refused (removing card) s d = refused-same (way 32 (in_place card) (in_place []) card s refl) d

-- ---- any calls
all_true : (cs : List SetCall) (s : CardSet) → TrueSet s → TrueSet (after_all cs s)
all_true [] s t = t
all_true (c ∷ cs) s t = all_true cs (set_outcome_of c s).left (call-true c s t)

empty-true : TrueSet empty_set
empty-true =
    record {
      whole = length-replicate {A = ℕ} set_size 0;
      sound = all_sound (replicate set_size 0) (λ i h. ap spoilt (zeros-free i h) ∙ free-sound);
      summed = replicate-list summary_numbers 0 ∙ list_same (λ (k : ℕ). 0) (sum_over (replicate set_size 0) places) summary_numbers (λ k h. sym (none k)) ∙ sym (numbers-are (replicate set_size 0));
    }
  where
    none : (k : ℕ) → sum_over (replicate set_size 0) places k ≡ 0
    none k =
        let low = sum-limited (place_number (replicate set_size 0) k) 0 places (λ i h. let free = ap (λ (bytes : List ℕ). read_number (read_whole (card_in bytes)) k) (zeros-free i h) ∙ free-gives k in omega (arith, free)) in
        omega (arith, low)

summed : (s : CardSet) → TrueSet s → Summed s
summed s t = record { afresh = t.summed; stays_true = of-true s t }

pub totals-stay : TotalsStay
totals-stay =
    record {
      once = λ c s d. summed (set_outcome_of c s).left (call-done c s d);
      always = λ cs s u. summed (after_all cs s) (all_true cs s (true-set s u));
      from_empty = λ cs. summed (after_all cs empty_set) (all_true cs empty_set empty-true);
      refused_keeps = call_refused;
    }

-- ---- the limit
pub totals-fit : TotalsFit
totals-fit =
    record {
      limited = λ bytes k. elim (lt-or-ge k summary_numbers) [
        | inl h ↦ omega (arith, ap (λ (xs : List ℕ). get_or xs k 0) (numbers-are bytes) ∙ get_or-list (sum_over bytes places) summary_numbers k 0 h, sum-of-days bytes places k)
        | inr h ↦ omega (arith, get_d_beyond (numbers_of (summary_of bytes)) k (omega (arith, h, ap length (numbers-are bytes) ∙ length-list (sum_over bytes places) summary_numbers)))
      ];
      held = omega arith;
    }
