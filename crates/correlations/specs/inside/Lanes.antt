-- The correlations with one profile at four roots side by side, and at twelve. No promise names it. Definitions only.
use Rattle.std.specs.Prelude.{ℕ, ◌+◌, ◌-◌, List, [], ◌∷◌, get_or, Float}
use Rattle.std.specs.Float.{nan, binary32}
use Rattle.std.specs.Float.Ieee.{add, mul, div}
use Rattle.laws.specs.Turns.{turns}
use Rattle.laws.specs.Front.{list}
use Rattle.laws.specs.Values.{plus_zero}
use Rattle.correlations.specs.declared.lanes.Four.{Four}

-- four values
abbrev pub four : Float → Float → Float → Float → Four
four first second third fourth = record { first = first; second = second; third = third; fourth = fourth }

-- the same value for all four
abbrev pub alike : Float → Four
alike value = four value value value value

-- the four values from j up
abbrev pub four_at : List Float → ℕ → Four
four_at wheel j = four (get_or wheel j nan) (get_or wheel (j + 1) nan) (get_or wheel (j + 2) nan) (get_or wheel (j + 3) nan)

-- a sum with a product more
abbrev pub product_added : Float → Float → Float → Float
product_added sum left right = add binary32 sum (mul binary32 left right)

-- each sum with a product more
unfoldable pub added_four : Four → Four → Four → Four
added_four s l r = four (product_added s.first l.first r.first) (product_added s.second l.second r.second) (product_added s.third l.third r.third) (product_added s.fourth l.fourth r.fourth)

-- one pitch class more
unfoldable pub lanes_turn : List Float → List Float → ℕ → ℕ → Four → Four
lanes_turn away wheel root i sums = added_four sums (alike (get_or away i nan)) (four_at wheel (root + 11 - i))

-- the sums of products over the pitch classes from C up, for the root and the three above it
unfoldable pub lanes_of : List Float → List Float → ℕ → Four
lanes_of away wheel root = turns (lanes_turn away wheel root) 12 0 (alike plus_zero)

-- three times four values
abbrev pub twelve : Four → Four → Four → List Float
twelve a b c =
    a.first ∷ a.second ∷ a.third ∷ a.fourth
    ∷ b.first ∷ b.second ∷ b.third ∷ b.fourth
    ∷ c.first ∷ c.second ∷ c.third ∷ c.fourth ∷ []

-- the sums of products at all roots
unfoldable pub products_of : List Float → List Float → List Float
products_of away wheel = twelve (lanes_of away wheel 0) (lanes_of away wheel 4) (lanes_of away wheel 8)

-- the correlation at a root
abbrev pub quotient_at : List Float → List Float → ℕ → Float
quotient_at products divisors root = div binary32 (get_or products root nan) (get_or divisors root nan)

-- the correlations at all roots, each with its divisor
unfoldable pub turned_of : List Float → List Float → List Float → List Float
turned_of away wheel divisors = list (quotient_at (products_of away wheel) divisors) 12
