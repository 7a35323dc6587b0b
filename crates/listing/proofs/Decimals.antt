-- The digits of a number are those of its tenth, and one more; more places than it needs change nothing.
use mathlib.Core.Path.{◌≡◌, refl, ap, ◌∙◌}
use mathlib.Core.Bool.{Bool, true, false, cond}
use mathlib.Core.List.{List, [], ◌∷◌, ◌++◌}
use Prim.Native.Nat.{ℕ, zero, suc, ◌+◌, ◌*◌, ◌/◌, ◌%◌, ◌^◌, ◌<◌, ◌≤◌}
use native.Mathlib.Omega.{arith}
use native.Mathlib.Nat.{pow-suc}
use lib.Dec.{ltb}
use lib.ListN.{length, length-append}
use borrow.Author.Tests.{lt-ltb, le-ltb}
use Rattle.listing.specs.Lines.{digit_code, decimal_in, decimal_of}

-- the digits of a tenth, and the last one
abbrev behind_tenth : ℕ → ℕ → List ℕ
behind_tenth places n = decimal_in places (n / 10) ++ (digit_code (n % 10) ∷ [])

digits-below : (places n : ℕ) → n < 10 → decimal_in (suc places) n ≡ digit_code n ∷ []
unfolding decimal_in
digits-below places n h = rw (lt-ltb n 10 h)

digits_from : (places n : ℕ) → 10 ≤ n → decimal_in (suc places) n ≡ behind_tenth places n
unfolding decimal_in
digits_from places n h = rw (le-ltb n 10 h)

-- one place more than enough
spare-place : (places n : ℕ) → n < 10 ^ suc places → decimal_in (suc places) n ≡ decimal_in (suc (suc places)) n
unfolding decimal_in
spare-place zero n h = rw (lt-ltb n 10 (omega arith))
spare-place (suc places) n h = either (spare-place places (n / 10) (tenth n (10 ^ suc places) (rw (pow-suc 10 (suc places)) at h))) (ltb n 10)
  where
    tenth : (n m : ℕ) → n < m * 10 → n / 10 < m
    tenth n m h = omega arith

    either : decimal_in (suc places) (n / 10) ≡ decimal_in (suc (suc places)) (n / 10) → (b : Bool) → cond b (digit_code n ∷ []) (behind_tenth (suc places) n) ≡ cond b (digit_code n ∷ []) (behind_tenth (suc (suc places)) n)
    either same true = refl
    either same false = ap (λ (l : List ℕ). l ++ (digit_code (n % 10) ∷ [])) same

pub one-digit : (n : ℕ) → n < 10 → decimal_of n ≡ digit_code n ∷ []
unfolding decimal_of
one-digit n h = digits-below 19 n h

pub more-digits : (n : ℕ) → 10 ≤ n → n < 2 ^ 64 → decimal_of n ≡ decimal_of (n / 10) ++ (digit_code (n % 10) ∷ [])
unfolding decimal_of
more-digits n h k = digits_from 19 n h ∙ ap (λ (l : List ℕ). l ++ (digit_code (n % 10) ∷ [])) (spare-place 18 (n / 10) (omega arith))

pub one-longer : (n : ℕ) → 10 ≤ n → n < 2 ^ 64 → length (decimal_of n) ≡ length (decimal_of (n / 10)) + 1
one-longer n h k = ap length (more-digits n h k) ∙ length-append (decimal_of (n / 10)) (digit_code (n % 10) ∷ [])

few-places : (places n : ℕ) → length (decimal_in places n) ≤ places
unfolding decimal_in
few-places zero n = omega arith
few-places (suc places) n = either (few-places places (n / 10)) (ltb n 10)
  where
    either : length (decimal_in places (n / 10)) ≤ places → (b : Bool) → length (cond b (digit_code n ∷ []) (behind_tenth places n)) ≤ suc places
    either few true = omega arith
    either few false = rw length-append (omega arith)

pub few-digits : (n : ℕ) → length (decimal_of n) ≤ 20
unfolding decimal_of
few-digits n = few-places 20 n
