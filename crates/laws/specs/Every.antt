-- A test of every number below a bound, which the checker computes, of any such number, of every entry of a list, of every entry with the next, and of two lists. Definitions only.
use Rattle.std.specs.Prelude.{ℕ, zero, suc, ◌+◌, ◌-◌, Bool, true, false, ◌&&◌, ◌||◌, List, eqb, length, get_or}

-- the test passes for each of the numbers 0 to n - 1
unfoldable pub every : (ℕ → Bool) → ℕ → Bool
every test zero = true
every test (suc n) = every test n && test n

-- the test passes for one of the numbers 0 to n - 1 at least
unfoldable pub any_below : (ℕ → Bool) → ℕ → Bool
any_below test zero = false
any_below test (suc n) = any_below test n || test n

-- every entry of the list passes the test; d is read nowhere
unfoldable pub every_entry : {A : Type 0} → (A → Bool) → A → List A → Bool
every_entry test d xs = every (λ (k : ℕ). test (get_or xs k d)) (length xs)

-- each of the first n entries stands so to the next of them; d is read nowhere
unfoldable pub every_pair : {A : Type 0} → (A → A → Bool) → A → List A → ℕ → Bool
every_pair test d xs n = every (λ (k : ℕ). test (get_or xs k d) (get_or xs (k + 1) d)) (n - 1)

-- two lists of numbers are as long as each other, and have the same in each place
unfoldable pub same_numbers : List ℕ → List ℕ → Bool
same_numbers xs ys = eqb (length xs) (length ys) && every (λ (k : ℕ). eqb (get_or xs k 0) (get_or ys k 0)) (length xs)
