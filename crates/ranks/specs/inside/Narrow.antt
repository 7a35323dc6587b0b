-- Values kept by bounds, and what stays the same. No promise names it. Definitions only.
use Rattle.std.specs.Prelude.{◌≡◌, Bool, not, ◌&&◌, ◌||◌, List, ℕ, ◌≤◌, T, take, drop, count_by, Float}
use Rattle.std.specs.Float.{binary32}
use Rattle.std.specs.Float.Ieee.{lt, fits}
use Rattle.laws.specs.Order.{order_key}
use Rattle.laws.specs.Values.{plus_zero}
use Rattle.ranks.specs.inside.Search.{count_below, key_at_rank}

-- a bound by which `<` parts values as the total order does: no zero and no NaN
abbrev pub divides : Float → Bool
divides b = lt b plus_zero || lt plus_zero b

-- how many values are below the bound
unfoldable pub count_under : List Float → Float → ℕ
count_under values bound = count_by (λ x. lt x bound) values

-- from the lower bound on, and below the upper one
abbrev pub within : Float → Float → Float → Bool
within low high x = lt x high && not (lt x low)

-- two bounds with the counts of the values below them
pub record Counted (values : List Float) (low high : Float) (below upto : ℕ) : Type 0 where
  pub low_divides : T (divides low)
  pub high_divides : T (divides high)
  pub low_fits : T (fits binary32 low)
  pub high_fits : T (fits binary32 high)
  pub below_is : below ≡ count_below values (order_key binary32 low)
  pub upto_is : upto ≡ count_below values (order_key binary32 high)

-- of the first n values m are left, and the key at the rank is the same
pub record Narrowed (before : List Float) (n rank : ℕ) (after : List Float) (m place : ℕ) : Type 0 where
  pub fewer : m ≤ n
  pub same_key : key_at_rank (take m after) place ≡ key_at_rank (take n before) rank
  pub same_rest : drop n after ≡ drop n before
