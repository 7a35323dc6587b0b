-- A call that is done exchanges one content for another: of every card one copy more, one less, or as many.
use Rattle.std.specs.Prelude.{Result, Ok, Err}
use mathlib.Core.Path.{◌≡◌, refl, sym, ap, subst, ◌∙◌}
use mathlib.Core.Bool.{Bool, true, false, ◌&&◌, cond}
use mathlib.Core.List.{List, [], ◌∷◌}
use Prim.Native.Nat.{ℕ, ◌+◌, ◌<◌, ◌≤◌}
use native.Mathlib.Omega.{arith}
use lib.Dec.{T}
use lib.ListN.{length, take}
use Rattle.laws.proofs.Cases.{same_test}
use Rattle.bits.specs.Bits.{bits_of_bytes}
use Rattle.card.specs.Layout.{most_segments}
use Rattle.card.specs.declared.layout.Layout.{Layout}
use Rattle.card_reader.specs.declared.judge.CardError.{CardError}
use Rattle.card_reader.specs.Reading.{judged_of, read_as}
use Rattle.laws.specs.Every.{same_numbers}
use Rattle.set_places.specs.Places.{places, place_size, place_at, length_on, card_in, read_whole, is_read, in_place, placed}
use Rattle.laws.proofs.Same.{same-is, same_of}
use Rattle.laws.proofs.Sums.{sum-changed}
use Rattle.set_places.proofs.Zeros.{length-in-place, none-in-place}
use Rattle.set_places.proofs.Changed.{place_same, place_other}
use Rattle.set_places.proofs.InPlace.{card-in-place, reads-in-place}
use Rattle.set_totals.proofs.Readings.{zeros-unread}
use Rattle.set_calls.specs.Sets.{CardSet, SetOutcome}
use Rattle.set_calls.proofs.Accepted.{Accepted}
use Rattle.set_calls.proofs.Truth.{TrueSet}
use Rattle.set_history.specs.Calls.{SetCall, adding, removing, set_outcome_of, is_done, after_all, done_of}
use Rattle.set_history.specs.CardsCounted.{copies, puts, takes, CardsCounted}
use Rattle.set_history.proofs.Ways.{Way, refused, done, way, differ}

-- a test as a number
abbrev number : Bool → ℕ
number b = cond b 1 0

-- 1 where a content is the card's, else 0
abbrev one : List ℕ → List ℕ → ℕ
one card content = cond (same_numbers content (in_place card)) 1 0

module _ (card : List ℕ) (l : Layout) (fits : length card ≤ place_size) (readable : judged_of card most_segments ≡ Ok l) where
  -- a free place does not hold it
  free_other : same_numbers (in_place []) (in_place card) ≡ false
  free_other = either (same_numbers (in_place []) (in_place card)) refl
    where
      unread : is_read (read_whole (card_in (in_place []))) ≡ false
      unread = ap (λ (bytes : List ℕ). is_read (read_whole (take (length_on (in_place [])) bytes))) none-in-place ∙ zeros-unread (length_on (in_place [])) place_size

      either : (b : Bool) → same_numbers (in_place []) (in_place card) ≡ b → b ≡ false
      either true e =
          let same = same-is (in_place []) (in_place card) (subst T (sym e) tt) in
          sym (reads-in-place card l fits readable) ∙ ap (λ (place : List ℕ). is_read (read_whole (card_in place))) (sym same) ∙ unread
      either false e = refl

  -- a place with another card holds it exactly where the cards are the same
  same-card : (other : List ℕ) (k : Layout) → length other ≤ place_size → judged_of other most_segments ≡ Ok k → same_numbers (in_place other) (in_place card) ≡ same_numbers other card
  same-card other k small reads =
      same_test (same_numbers (in_place other) (in_place card)) (same_numbers other card)
      (λ t. same_of other card (sym (card-in-place other k small reads) ∙ ap card_in (same-is (in_place other) (in_place card) t) ∙ card-in-place card l fits readable))
      (λ t. same_of (in_place other) (in_place card) (ap in_place (same-is other card t)))

  -- ---- one place changed
  exchanged : (s : CardSet) → TrueSet s → (i : ℕ) → i < places → (content : List ℕ) → length content ≡ place_size → copies card (placed i content s.bytes) + one card (place_at s.bytes i) ≡ copies card s.bytes + one card content
  unfolding copies
  exchanged s t i inside content size =
      sum-changed (λ (j : ℕ). one card (place_at (placed i content s.bytes) j)) (λ (j : ℕ). one card (place_at s.bytes j)) places i inside
      (λ j other. ap (one card) (place_other s.bytes i t.whole inside content size j other))
      ∙ ap (λ (place : List ℕ). copies card s.bytes + one card place) (place_same s.bytes i t.whole inside content size)

  -- ---- one call
  -- the copies after a call that gives `gained` of them where it is done, and takes `lost`
  abbrev Counts : CardSet → SetOutcome → Bool → Bool → Type 0
  Counts s o gained lost = copies card o.left.bytes + cond (lost && is_done o) 1 0 ≡ copies card s.bytes + cond (gained && is_done o) 1 0

  counts : {missing : ℕ} {from to other : List ℕ} {s : CardSet} {o : SetOutcome} (gained lost : Bool) → Way missing from to other s o →
      ((k : Layout) → Accepted other s k → (length to ≡ place_size) × (same_numbers to (in_place card) ≡ gained) × (same_numbers from (in_place card) ≡ lost)) → Counts s o gained lost
  counts {s = s} gained lost (refused by n) told =
      ap (λ (b : Bool). copies card s.bytes + cond (lost && b) 1 0) n ∙ ap (λ (k : ℕ). copies card s.bytes + k) (nothing lost gained) ∙ sym (ap (λ (b : Bool). copies card s.bytes + cond (gained && b) 1 0) n)
    where
      nothing : (a b : Bool) → ◌≡◌ {A = ℕ} (cond (a && false) 1 0) (cond (b && false) 1 0)
      nothing true true = refl
      nothing true false = refl
      nothing false true = refl
      nothing false false = refl
  counts {from = from} {to = to} {s = s} gained lost (done k a inside has) told =
      let known = told k a in
      let sums = exchanged s a.set _ inside to known.0 in
      let before = ap (one card) has ∙ ap number known.2 in
      let after = ap number known.1 in
      let lost-is = whole lost in
      let gained-is = whole gained in
      omega (arith, sums, before, after, lost-is, gained-is)
    where
      whole : (b : Bool) → ◌≡◌ {A = ℕ} (cond (b && true) 1 0) (cond b 1 0)
      whole true = refl
      whole false = refl

  counted : (c : SetCall) (s : CardSet) → Counts s (set_outcome_of c s) (puts card c) (takes card c)
  counted (adding other) s =
      counts (puts card (adding other)) false (way 31 (in_place []) (in_place other) other s refl) (λ k a. (length-in-place other a.fits, same-card other k a.fits a.readable, free_other))
  counted (removing other) s =
      counts false (takes card (removing other)) (way 32 (in_place other) (in_place []) other s refl) (λ k a. (length-in-place [] (omega arith), free_other, same-card other k a.fits a.readable))

  -- ---- any calls
  all-counted : (cs : List SetCall) (s : CardSet) → copies card (after_all cs s).bytes + done_of (takes card) cs s ≡ copies card s.bytes + done_of (puts card) cs s
  all-counted [] s = refl
  all-counted (c ∷ cs) s =
      let first = counted c s in
      let rest = all-counted cs (set_outcome_of c s).left in
      omega (arith, first, rest)

pub cards-counted : CardsCounted
cards-counted card read fits cs s = by_reading (judged_of card most_segments) refl
  where
    by_reading : (j : Result Layout CardError) → judged_of card most_segments ≡ j → copies card (after_all cs s).bytes + done_of (takes card) cs s ≡ copies card s.bytes + done_of (puts card) cs s
    by_reading (Err error) e = differ (sym read ∙ ap (λ (j : Result Layout CardError). is_read (read_as (bits_of_bytes card) j)) e)
    by_reading (Ok l) e = all-counted card l fits e cs s
