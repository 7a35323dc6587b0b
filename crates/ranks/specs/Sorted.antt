-- Values sorted by total order. Definitions only.
use Rattle.std.specs.Prelude.{cond, List, [], ◌∷◌, Float}
use Rattle.laws.specs.Order.{total_order}

-- x put into a sorted list, before the first entry that it is at or before
unfoldable pub inserted : Float → List Float → List Float
inserted x [] = x ∷ []
inserted x (y ∷ ys) = cond (total_order x y) (x ∷ y ∷ ys) (y ∷ inserted x ys)

-- the values in total order
unfoldable pub sorted_of : List Float → List Float
sorted_of [] = []
sorted_of (x ∷ xs) = inserted x (sorted_of xs)
