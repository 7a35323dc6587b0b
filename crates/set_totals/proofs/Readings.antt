-- What is read of bytes, in a summary's numbers: nothing of zeros, and of a card no more than a day.
use Rattle.std.specs.Prelude.{Option, Some, None, Result, Ok, Err}
use mathlib.Core.Path.{◌≡◌, refl, sym, ◌∙◌}
use mathlib.Core.Bool.{Bool, true, false, cond}
use mathlib.Core.List.{List}
use Prim.Native.Nat.{ℕ, zero, suc, ◌≤◌}
use native.Mathlib.Omega.{arith}
use lib.Dec.{eqb}
use lib.ListN.{take, replicate}
use Rattle.bits.specs.Bits.{bits_of, bits_of_bytes, number_of}
use Rattle.card.specs.Layout.{Meaning, last_end, most_segments}
use Rattle.card.specs.declared.layout.Layout.{Layout}
use Rattle.card_form.specs.Form.{meaning_on}
use Rattle.card_reader.specs.declared.judge.CardError.{CardError}
use Rattle.card_reader.specs.Reading.{Reading, refused, says, layout_on, judged_of, read_as}
use Rattle.card_reader.proofs.Ready.{ready}
use Rattle.set_places.specs.Places.{read_whole, is_read}
use Rattle.set_totals.specs.Summary.{key_time}
use Rattle.set_totals.specs.inside.Numbers.{card_number, read_number}
use Rattle.set_totals.proofs.Times.{key-time-limited}

-- ---- zeros
-- they name no layout
zeros-name-none : (n m : ℕ) → layout_on (bits_of_bytes (take n (replicate m 0))) ≡ None
unfolding bits_of_bytes bits_of number_of
zeros-name-none zero m = refl
zeros-name-none (suc n) zero = refl
zeros-name-none (suc n) (suc m) = refl

apart : {A : Type 0} {l : Layout} → ◌≡◌ {A = Option Layout} None (Some l) → A
apart e = let z : ◌≡◌ {A = ℕ} 0 1 = cc in absurd (omega arith)

-- a front of zeros does not read
pub zeros-unread : (n m : ℕ) → is_read (read_whole (take n (replicate m 0))) ≡ false
zeros-unread n m = either (judged_of bytes most_segments) refl
  where
    bytes : List ℕ
    bytes = take n (replicate m 0)

    either : (j : Result Layout CardError) → judged_of bytes most_segments ≡ j → is_read (read_as (bits_of_bytes bytes) j) ≡ false
    either (Err error) e = refl
    either (Ok l) e = apart (sym (zeros-name-none n m) ∙ (ready bytes most_segments l e).known)

-- what does not read adds nothing
pub unread-none : (r : Reading) (k : ℕ) → is_read r ≡ false → read_number r k ≡ 0
unread-none (refused number) k e = refl
unread-none (says m) k e = let z : ◌≡◌ {A = ℕ} 0 1 = cc in absurd (omega arith)

-- ---- a card
-- each of its numbers is at most a day's milliseconds
number-limited : (m : Meaning) (limit k : ℕ) → 1 ≤ limit → ((key : ℕ) → key_time m key ≤ limit) → card_number m k ≤ limit
unfolding card_number
number-limited m limit k one times = either (eqb k 24) (eqb k 25) (eqb m.header.key 24)
  where
    either : (a b c : Bool) → cond a 1 (cond b (cond c 1 0) (key_time m k)) ≤ limit
    either true b c = one
    either false true true = one
    either false true false = omega arith
    either false false c = times k

pub reading-limited : (card : List ℕ) (k : ℕ) → read_number (read_whole card) k ≤ last_end
reading-limited card k = either (judged_of card most_segments) refl
  where
    either : (j : Result Layout CardError) → judged_of card most_segments ≡ j → read_number (read_as (bits_of_bytes card) j) k ≤ last_end
    either (Err error) e = omega arith
    either (Ok l) e =
        let r = ready card most_segments l e in
        let m = meaning_on l (bits_of_bytes card) in
        number-limited m last_end k (omega arith) (λ key. omega (arith, key-time-limited l m r.good key, r.sound.early))
