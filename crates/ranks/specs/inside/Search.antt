-- What the steps of `select` hand to one another. No promise names it. Definitions only.
use Rattle.std.specs.Prelude.{ℕ, ◌+◌, ◌-◌, ◌*◌, ◌≤◌, ◌<◌, cond, List, length, get_or, take, ltb, count_by, Float}
use Rattle.std.specs.Float.{Format, nan, binary32}
use Rattle.std.specs.Float.Ieee.{top, of_bits}
use Rattle.laws.specs.Order.{order_key}
use Rattle.ranks.specs.Sorted.{sorted_of}

-- how many values have an order key below the bound
unfoldable pub count_below : List Float → ℕ → ℕ
count_below values bound = count_by (λ x. ltb (order_key binary32 x) bound) values

-- the order key of the value at a rank of the values in total order
unfoldable pub key_at_rank : List Float → ℕ → ℕ
key_at_rank values rank = order_key binary32 (get_or (sorted_of values) rank nan)

-- the value at a rank of the first n values has one of the `width` order keys from `low` on
pub record SoughtIn (values : List Float) (n rank low width : ℕ) : Type 0 where
  pub inside : rank < n
  pub room : n ≤ length values
  pub some : 0 < width
  pub keys : low + width ≤ 0x1_0000_0000
  pub least : count_below (take n values) low ≤ rank
  pub most : rank < count_below (take n values) (low + width)

-- the pattern of the value with an order key, at the format f
unfoldable pub pattern_of_key : Format → ℕ → ℕ
pattern_of_key f key = cond (ltb key (top f)) (2 * top f - 1 - key) (key - top f)

-- the value with an order key: a pattern that is no number's is the NaN's
unfoldable pub value_of_key : Format → ℕ → Float
value_of_key f key = of_bits f (pattern_of_key f key)
