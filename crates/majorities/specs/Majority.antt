-- The key that most windows of a group tell, written from the Rust's `majority_key_in_range`. Definitions only.
use Rattle.std.specs.Prelude.{ℕ, List, length, eqb, leb}
use Rattle.laws.specs.Lists.{passing}
use Rattle.laws.specs.Leader.{keys_met, leading_key, last_largest}

-- how many of the numbers are the key's
unfoldable pub votes_of : List ℕ → ℕ → ℕ
votes_of numbers key = length (passing (λ (k : ℕ). eqb k key) numbers)

-- the number that most are, of equal counts the one first met last
unfoldable pub majority_of : List ℕ → ℕ
majority_of numbers = leading_key 0 (last_largest leb (votes_of numbers) (keys_met numbers))
