-- Whether lists are those that are stored from a byte on. Definitions only.
use Rattle.std.specs.Prelude.{ℕ, ◌+◌, ◌*◌, Bool, List, [], eqb, length, get_or, Float}
use Rattle.std.specs.Float.{nan, binary64}
use Rattle.std.specs.Float.Ieee.{to_bits}
use Rattle.laws.specs.Every.{every}
use Rattle.replayed.specs.Records.{word_at, value_at, same_value}

-- entries end to end, each of them in so many bytes; d is read nowhere
abbrev pub same_entries : {A : Type 0} → (List ℕ → ℕ → A → Bool) → ℕ → A → List ℕ → ℕ → List A → Bool
same_entries same size d bytes at xs = every (λ (i : ℕ). same bytes (at + size * i) (get_or xs i d)) (length xs)

-- the first values, by their patterns
abbrev pub same_among : List ℕ → ℕ → List Float → ℕ → Bool
same_among bytes at xs count = every (λ (i : ℕ). same_value (get_or xs i nan) (value_at bytes (at + 4 * i))) count

-- all values
unfoldable pub same_values : List ℕ → ℕ → List Float → Bool
same_values bytes at xs = same_among bytes at xs (length xs)

-- the twelve values of a chroma
unfoldable pub same_chroma : List ℕ → ℕ → List Float → Bool
same_chroma bytes at xs = same_among bytes at xs 12

-- chromas end to end
unfoldable pub same_chromas : List ℕ → ℕ → List (List Float) → Bool
same_chromas bytes at xs = every (λ (i : ℕ). same_chroma bytes (at + 48 * i) (get_or xs i [])) (length xs)

-- one time, by its pattern of 64 bits, the lower half first
unfoldable pub same_time : List ℕ → ℕ → Float → Bool
same_time bytes at x = eqb (to_bits binary64 x) (word_at bytes at + word_at bytes (at + 4) * 0x1_0000_0000)

-- all times
unfoldable pub same_times : List ℕ → ℕ → List Float → Bool
same_times bytes at xs = every (λ (i : ℕ). same_time bytes (at + 8 * i) (get_or xs i nan)) (length xs)

-- all numbers
unfoldable pub same_numbers : List ℕ → ℕ → List ℕ → Bool
same_numbers bytes at xs = every (λ (i : ℕ). eqb (get_or xs i 0) (word_at bytes (at + 4 * i))) (length xs)
