-- Numbers with others added or taken away, entry by entry.
use mathlib.Core.Path.{◌≡◌, sym, ap, ◌∙◌}
use mathlib.Core.List.{List}
use Prim.Native.Nat.{ℕ, ◌+◌, ◌-◌, ◌<◌}
use native.Mathlib.Omega.{arith}
use lib.ListN.{length, get_or, replicate, length-replicate}
use Rattle.laws.specs.Front.{list}
use Rattle.laws.proofs.Front.{list_same, list-own, get_or-list, length-list}
use Rattle.set_places.proofs.Zeros.{zero-entry}
use Rattle.set_totals.specs.inside.Numbers.{summary_numbers, more, less, CanAdd, CanTake}

-- numbers by their entries
pub by_entries : (numbers : List ℕ) → length numbers ≡ summary_numbers → list (λ (k : ℕ). get_or numbers k 0) summary_numbers ≡ numbers
by_entries numbers size = ap (list (λ (k : ℕ). get_or numbers k 0)) (sym size) ∙ list-own numbers 0

-- nothing added
pub more-none : (f : ℕ → ℕ) (numbers : List ℕ) → length numbers ≡ summary_numbers → ((k : ℕ) → k < summary_numbers → f k ≡ 0) → more f numbers ≡ numbers
unfolding more
more-none f numbers size none =
    list_same (λ (k : ℕ). get_or numbers k 0 + f k) (λ (k : ℕ). get_or numbers k 0) summary_numbers (λ k h. omega (arith, none k h)) ∙ by_entries numbers size

pub more_same : (f g : ℕ → ℕ) (numbers : List ℕ) → ((k : ℕ) → k < summary_numbers → f k ≡ g k) → more f numbers ≡ more g numbers
unfolding more
more_same f g numbers e = list_same (λ (k : ℕ). get_or numbers k 0 + f k) (λ (k : ℕ). get_or numbers k 0 + g k) summary_numbers (λ k h. ap (λ (n : ℕ). get_or numbers k 0 + n) (e k h))

pub less-same : (f g : ℕ → ℕ) (numbers : List ℕ) → ((k : ℕ) → k < summary_numbers → f k ≡ g k) → less f numbers ≡ less g numbers
unfolding less
less-same f g numbers e = list_same (λ (k : ℕ). get_or numbers k 0 - f k) (λ (k : ℕ). get_or numbers k 0 - g k) summary_numbers (λ k h. ap (λ (n : ℕ). get_or numbers k 0 - n) (e k h))

-- entry k of numbers with others added
pub more-at : (f : ℕ → ℕ) (numbers : List ℕ) (k : ℕ) → k < summary_numbers → get_or (more f numbers) k 0 ≡ get_or numbers k 0 + f k
unfolding more
more-at f numbers k h = get_or-list (λ (j : ℕ). get_or numbers j 0 + f j) summary_numbers k 0 h

pub more-long : (f : ℕ → ℕ) (numbers : List ℕ) → length (more f numbers) ≡ summary_numbers
unfolding more
more-long f numbers = length-list (λ (k : ℕ). get_or numbers k 0 + f k) summary_numbers

pub less-long : (f : ℕ → ℕ) (numbers : List ℕ) → length (less f numbers) ≡ summary_numbers
unfolding less
less-long f numbers = length-list (λ (k : ℕ). get_or numbers k 0 - f k) summary_numbers

-- ---- added to zeros
abbrev pub zeros : List ℕ
zeros = replicate summary_numbers 0

pub zeros-can : CanAdd zeros
zeros-can = record { size = length-replicate {A = ℕ} summary_numbers 0; small = λ k. omega (arith, zero-entry summary_numbers k) }

module _ (f : ℕ → ℕ) where
  -- they are themselves
  own_at : (k : ℕ) → k < summary_numbers → get_or (more f zeros) k 0 ≡ f k
  own_at k h = omega (arith, more-at f zeros k h, zero-entry summary_numbers k)

  pub own-can : {numbers : List ℕ} → CanTake f numbers → CanTake (λ (k : ℕ). get_or (more f zeros) k 0) numbers
  own-can can = record { size = can.size; enough = λ k h. omega (arith, own_at k h, can.enough k h) }

  pub own-less : (numbers : List ℕ) → less (λ (k : ℕ). get_or (more f zeros) k 0) numbers ≡ less f numbers
  own-less numbers = less-same (λ (k : ℕ). get_or (more f zeros) k 0) f numbers own_at
