-- What a place holds, byte by byte: a card's bytes, and zeros behind them.
use mathlib.Core.Path.{◌≡◌, refl, sym, ap, ap₂, subst, ◌∙◌}
use mathlib.Core.Bool.{false, Bool, true, ◌&&◌}
use mathlib.Core.List.{List, [], ◌∷◌, ◌++◌}
use Prim.Native.Nat.{ℕ, zero, suc, ◌+◌, ◌-◌, ◌≤◌}
use native.Mathlib.Nat.{not-suc-le-zero, le_of_suc-le-suc}
use native.Mathlib.Omega.{arith}
use lib.Dec.{T, eqb, eqb→eq, eqb_refl}
use lib.Ieee.Fits.{and_l, and_r, and_i}
use lib.ListN.{length, get_or, take, drop, replicate, length-append, length-drop, length-replicate, get_or-replicate, replicate-append-replicate, take-append-drop}
use lib.Seq.{ext_get_or, take_at, drop_at}
use Rattle.laws.specs.Every.{every_entry, same_numbers}
use Rattle.laws.proofs.Cases.{same_test}
use Rattle.laws.proofs.Every.{each, every_of}
use Rattle.set_places.specs.Places.{place_size, all_zero, in_place}
use Rattle.laws.proofs.Same.{same-is, same_of}

-- a test that holds
pub passed : (b : Bool) → T b → b ≡ true
passed true t = refl
passed false t = elim t [ ]

-- bytes that are all zeros, and back
pub zeros-are : (bytes : List ℕ) → T (all_zero bytes) → bytes ≡ replicate (length bytes) 0
unfolding all_zero every_entry
zeros-are bytes t =
    ext_get_or 0 bytes (replicate (length bytes) 0) (sym (length-replicate (length bytes) 0))
    (λ k l. eqb→eq (get_or bytes k 0) 0 (each (λ (j : ℕ). eqb (get_or bytes j 0) 0) (length bytes) t k l) ∙ sym (get_or-replicate (length bytes) k 0 0 l))

pub are-zeros : (n : ℕ) → T (all_zero (replicate n 0))
unfolding all_zero every_entry
are-zeros n =
    every_of (λ (j : ℕ). eqb (get_or (replicate n 0) j 0) 0) (length (replicate n 0))
    (λ k l. subst (λ (x : ℕ). T (eqb x 0)) (sym (get_or-replicate n k 0 0 (rw (length-replicate {A = ℕ} n 0) at l))) (eqb_refl 0))

-- what is read behind the last entry
pub get_d_beyond : (xs : List ℕ) (k : ℕ) → length xs ≤ k → get_or xs k 0 ≡ 0
get_d_beyond [] k h = refl
get_d_beyond (x ∷ xs) zero h = absurd (not-suc-le-zero h)
get_d_beyond (x ∷ xs) (suc k) h = get_d_beyond xs k (le_of_suc-le-suc h)

-- zeros but for the first n, and those
pub drop-zeros : (n m : ℕ) → n ≤ m → drop {A = ℕ} n (replicate m 0) ≡ replicate (m - n) 0
drop-zeros n m h =
    let all : n + (m - n) ≡ m = omega (arith, h) in
    ap (λ (k : ℕ). drop {A = ℕ} n (replicate k 0)) (sym all)
    ∙ ap (drop {A = ℕ} n) (sym (replicate-append-replicate {A = ℕ} n (m - n) 0))
    ∙ drop_at {A = ℕ} (replicate n 0) (replicate (m - n) 0) n (length-replicate {A = ℕ} n 0)

pub take-zeros : (n m : ℕ) → n ≤ m → take {A = ℕ} n (replicate m 0) ≡ replicate n 0
take-zeros n m h =
    let all : n + (m - n) ≡ m = omega (arith, h) in
    ap (λ (k : ℕ). take {A = ℕ} n (replicate k 0)) (sym all)
    ∙ ap (take {A = ℕ} n) (sym (replicate-append-replicate {A = ℕ} n (m - n) 0))
    ∙ take_at {A = ℕ} (replicate n 0) (replicate (m - n) 0) n (length-replicate {A = ℕ} n 0)

-- zeros behind a list are what is read behind it
pub zero-entry : (n k : ℕ) → get_or {A = ℕ} (replicate n 0) k 0 ≡ 0
zero-entry zero k = refl
zero-entry (suc n) zero = refl
zero-entry (suc n) (suc k) = zero-entry n k

-- ---- a card in its place
module _ (card : List ℕ) (fits : length card ≤ place_size) where
  -- the zeros behind it
  abbrev rest : List ℕ
  rest = replicate (place_size - length card) 0

  pub in_place_lem : in_place card ≡ card ++ rest
  unfolding in_place
  in_place_lem = ap (λ (zeros : List ℕ). card ++ zeros) (drop-zeros (length card) place_size fits)

  pub length-in-place : length (in_place card) ≡ place_size
  length-in-place = let all : length card + (place_size - length card) ≡ place_size = omega (arith, fits) in ap length in_place_lem ∙ length-append card (rest) ∙ ap (λ (n : ℕ). length card + n) (length-replicate {A = ℕ} (place_size - length card) 0) ∙ omega (arith, fits)

  -- its bytes and those behind it, apart
  pub card-of : take (length card) (in_place card) ≡ card
  card-of = ap (take (length card)) in_place_lem ∙ take_at card (rest) (length card) refl

  pub behind-of : drop (length card) (in_place card) ≡ rest
  behind-of = ap (drop (length card)) in_place_lem ∙ drop_at card (rest) (length card) refl

  -- a place that holds it, by the two parts
  pub holds_parts : (place : List ℕ) → length place ≡ place_size → same_numbers (take (length card) place) card && all_zero (drop (length card) place) ≡ same_numbers place (in_place card)
  holds_parts place long =
      let Front-same = same_numbers (take (length card) place) card in
      let rest-zero = all_zero (drop (length card) place) in
      let rest-long : length (drop (length card) place) ≡ place_size - length card = length-drop (length card) place ∙ ap (λ (n : ℕ). n - length card) long in
      same_test (Front-same && rest-zero) (same_numbers place (in_place card))
      (λ both. same_of place (in_place card)
      (sym (take-append-drop (length card) place)
      ∙ ap₂ (λ (xs ys : List ℕ). xs ++ ys) (same-is _ card (and_l Front-same rest-zero both)) (zeros-are _ (and_r Front-same rest-zero both) ∙ ap (λ (n : ℕ). replicate n 0) rest-long)
      ∙ sym in_place_lem))
      (λ whole. let e = same-is place (in_place card) whole in
      and_i Front-same rest-zero (same_of _ card (ap (take (length card)) e ∙ card-of)) (subst (λ (xs : List ℕ). T (all_zero xs)) (sym (ap (drop (length card)) e ∙ behind-of)) (are-zeros (place_size - length card))))

-- no bytes in a place leave it free
pub none-in-place : in_place [] ≡ replicate place_size 0
unfolding in_place
none-in-place = refl
