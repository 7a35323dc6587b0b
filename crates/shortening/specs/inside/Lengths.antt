-- Which segments are short and which of two neighbours a short one joins, from the columns of starts and ends alone. No promise names it. Definitions only.
use Rattle.std.specs.Prelude.{ℕ, ◌-◌, Bool, true, false, ◌&&◌, cond, List, eqb, Float}
use Rattle.std.specs.Float.Ieee.{le}
use Rattle.laws.specs.First.{first}
use Rattle.timeline.specs.inside.Segments.{seconds_in, short_in}

-- where the first short segment stands: the count where none is short
unfoldable pub first_short_in : Float → List Float → List Float → ℕ → ℕ
first_short_in least starts ends count = first (short_in least starts ends) count 0

-- the last of the first `done` joins the one before it rather than the next one
unfoldable pub prefers_back : ℕ → ℕ → ℕ → List Float → List Float → Bool
prefers_back done next count starts ends =
    cond (eqb (done - 1) 0) false (cond (eqb next count) true (le (seconds_in starts ends next) (seconds_in starts ends (done - 1 - 1))))

-- it is short, and does
unfoldable pub joins_back : Float → ℕ → ℕ → ℕ → List Float → List Float → Bool
joins_back least done next count starts ends = short_in least starts ends (done - 1) && prefers_back done next count starts ends
