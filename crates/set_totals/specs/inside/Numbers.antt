-- A summary's numbers one by one. No promise names it. Definitions only.
use Rattle.std.specs.Prelude.{◌≡◌, cond, List, ℕ, ◌+◌, ◌-◌, ◌^◌, ◌<◌, ◌≤◌, eqb, length, get_or, set}
use Rattle.laws.specs.Front.{list}
use Rattle.card.specs.Layout.{Meaning}
use Rattle.card_reader.specs.Reading.{Reading}
use Rattle.set_totals.specs.Summary.{key_time, keyless_of, of_reading}

-- how many there are
abbrev pub summary_numbers : ℕ
summary_numbers = 26

-- what a card adds to number k
unfoldable pub card_number : Meaning → ℕ → ℕ
card_number m k = cond (eqb k 24) 1 (cond (eqb k 25) (keyless_of m.header) (key_time m k))

-- what is read of bytes adds to number k
abbrev pub read_number : Reading → ℕ → ℕ
read_number reading k = of_reading (λ (m : Meaning). card_number m k) reading

-- numbers with something added to number k
abbrev pub raised : ℕ → ℕ → List ℕ → List ℕ
raised k by numbers = set numbers k (get_or numbers k 0 + by)

-- numbers with another added to each
unfoldable pub more : (ℕ → ℕ) → List ℕ → List ℕ
more f numbers = list (λ (k : ℕ). get_or numbers k 0 + f k) summary_numbers

-- numbers with another taken from each
unfoldable pub less : (ℕ → ℕ) → List ℕ → List ℕ
less f numbers = list (λ (k : ℕ). get_or numbers k 0 - f k) summary_numbers

-- numbers that a card's can be added to
pub record CanAdd (numbers : List ℕ) : Type 0 where
  pub size : length numbers ≡ summary_numbers
  pub small : (k : ℕ) → get_or numbers k 0 < 2 ^ 63

-- numbers that others can be taken from
pub record CanTake (f : ℕ → ℕ) (numbers : List ℕ) : Type 0 where
  pub size : length numbers ≡ summary_numbers
  pub enough : (k : ℕ) → k < summary_numbers → f k ≤ get_or numbers k 0
