-- A set's summary, number by number: each is a sum over the places.
use mathlib.Core.Path.{◌≡◌, refl, sym, ap, ap₂, ◌∙◌}
use mathlib.Core.Bool.{Bool, cond}
use mathlib.Core.List.{List, [], ◌∷◌, ◌++◌, append_assoc}
use Prim.Native.Nat.{ℕ, ◌+◌, ◌*◌, ◌<◌, ◌≤◌}
use native.Mathlib.Omega.{arith}
use lib.Dec.{eqb}
use lib.ListN.{replicate}
use mathlib.Core.Logic.{inl, inr}
use Rattle.laws.proofs.Cases.{lt-or-ge}
use borrow.Author.Tests.{ne_eqb}
use Rattle.laws.specs.Front.{list}
use Rattle.laws.proofs.Front.{list-more, list_same, replicate-list, length-list, get_or-list}
use Rattle.card.specs.Layout.{Meaning, last_end}
use Rattle.card_reader.specs.Reading.{Reading, refused, says}
use Rattle.laws.specs.Sums.{sum_below}
use Rattle.set_places.specs.Places.{places, place_at, card_in, read_whole}
use Rattle.laws.proofs.Sums.{sum-none, sum_more, sum_same, sum-limited}
use Rattle.set_places.proofs.Zeros.{get_d_beyond}
use Rattle.set_totals.specs.Summary.{key_time, keyless_of, of_reading, over_cards, summary_of, numbers_of}
use Rattle.set_totals.specs.inside.Numbers.{summary_numbers, card_number, read_number, more, CanAdd}
use Rattle.set_totals.proofs.Readings.{reading-limited}

-- what place i adds to number k
abbrev pub place_number : List ℕ → ℕ → ℕ → ℕ
place_number set k i = read_number (read_whole (card_in (place_at set i))) k

-- the sum of number k over the first n places
abbrev pub sum_over : List ℕ → ℕ → ℕ → ℕ
sum_over set n k = sum_below (place_number set k) n

-- a number of a card that is number k of a summary
over-is : (set : List ℕ) (k : ℕ) (of : Meaning → ℕ) → ((m : Meaning) → of m ≡ card_number m k) → over_cards of set ≡ sum_over set places k
unfolding over_cards
over-is set k of e = sum_same (λ (i : ℕ). of_reading of (read_whole (card_in (place_at set i)))) (place_number set k) places (λ i h. either (read_whole (card_in (place_at set i))))
  where
    either : (r : Reading) → of_reading of r ≡ read_number r k
    either (refused number) = refl
    either (says m) = e m

key-number : (k : ℕ) → k < 24 → (m : Meaning) → key_time m k ≡ card_number m k
unfolding card_number
key-number k h m =
    sym
    (ap (λ (b : Bool). cond b 1 (cond (eqb k 25) (keyless_of m.header) (key_time m k))) (ne_eqb k 24 (λ e. omega (arith, h, e)))
    ∙ ap (λ (b : Bool). cond b (keyless_of m.header) (key_time m k)) (ne_eqb k 25 (λ e. omega (arith, h, e))))

one_number : (m : Meaning) → 1 ≡ card_number m 24
unfolding card_number
one_number m = refl

keyless-number : (m : Meaning) → keyless_of m.header ≡ card_number m 25
unfolding card_number
keyless-number m = refl

pub numbers-are : (set : List ℕ) → numbers_of (summary_of set) ≡ list (sum_over set places) summary_numbers
unfolding numbers_of summary_of
numbers-are set =
    let f = sum_over set places in
    ap₂ (λ (xs ys : List ℕ). xs ++ ys)
    (list_same (λ (key : ℕ). over_cards (λ (m : Meaning). key_time m key) set) f 24 (λ k h. over-is set k (λ (m : Meaning). key_time m k) (key-number k h)))
    (ap₂ (λ (a b : ℕ). a ∷ b ∷ []) (over-is set 24 (λ (m : Meaning). 1) one_number) (over-is set 25 (λ (m : Meaning). keyless_of m.header) keyless-number))
    ∙ sym (append_assoc (list f 24) (f 24 ∷ []) (f 25 ∷ []))
    ∙ sym (list-more f 25 ∙ ap (λ (xs : List ℕ). xs ++ (f 25 ∷ [])) (list-more f 24))

-- a sum over n places is at most so many days
pub sum-of-days : (set : List ℕ) (n k : ℕ) → sum_over set n k ≤ n * last_end
sum-of-days set n k = sum-limited (place_number set k) last_end n (λ i h. reading-limited (card_in (place_at set i)) k)

-- ---- place by place
pub tallied-none : (set : List ℕ) → replicate summary_numbers 0 ≡ list (sum_over set 0) summary_numbers
tallied-none set = replicate-list summary_numbers 0 ∙ list_same (λ (k : ℕ). 0) (sum_over set 0) summary_numbers (λ k h. sym (sum-none (place_number set k)))

pub tallied-more : (set : List ℕ) (i : ℕ) → more (read_number (read_whole (card_in (place_at set i)))) (list (sum_over set i) summary_numbers) ≡ list (sum_over set (i + 1)) summary_numbers
unfolding more
tallied-more set i =
    list_same _ (sum_over set (i + 1)) summary_numbers
    (λ k h. ap (λ (n : ℕ). n + place_number set k i) (get_or-list (sum_over set i) summary_numbers k 0 h) ∙ sym (sum_more (place_number set k) i))

pub tallied-can : (set : List ℕ) (i : ℕ) → i ≤ places → CanAdd (list (sum_over set i) summary_numbers)
tallied-can set i few =
    let long = length-list (sum_over set i) summary_numbers in
    record {
      size = long;
      small = λ k. elim (lt-or-ge k summary_numbers) [
        | inl h ↦ omega (arith, get_or-list (sum_over set i) summary_numbers k 0 h, sum-of-days set i k, few)
        | inr h ↦ omega (arith, get_d_beyond (list (sum_over set i) summary_numbers) k (omega (arith, long, h)))
      ];
    }
