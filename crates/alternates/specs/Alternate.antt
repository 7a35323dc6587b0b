-- The alternate key, written from the Rust's `significant_alternate_key`. Definitions only.
use Rattle.std.specs.Prelude.{ℕ, Bool, not, ◌&&◌, ◌||◌, cond, List, map, length, eqb, Float, Option, None, Some}
use Rattle.std.specs.Float.{binary32, binary64}
use Rattle.std.specs.Float.Ieee.{of_bits, add, div, lt, le}
use Rattle.laws.specs.Lists.{passing, fold}
use Rattle.laws.specs.Order.{total_order}
use Rattle.laws.specs.Values.{plus_zero, minus_zero, epsilon}
use Rattle.laws.specs.Pick.{maximum_number}
use Rattle.laws.specs.Convert.{converted}
use Rattle.laws.specs.Leader.{without, keys_met, Standing, nobody, leads, last_largest}
use Rattle.keys.specs.Numbers.{key_number}
use Rattle.timeline.specs.Segments.{seconds}
use Rattle.timeline.specs.declared.segment.Segment.{Segment}
use Rattle.alternates.specs.declared.alternate.Alternate.{Alternate}

-- 2^-52, Rust's f64::EPSILON
abbrev pub instant : Float
instant = of_bits binary64 0x3cb0_0000_0000_0000

-- a segment's length, held from +0 up
unfoldable pub held_seconds : Segment → Float
held_seconds s = maximum_number (seconds s) plus_zero

-- longer than 2^-52 s
unfoldable pub lasting : Segment → Bool
lasting s = not (le (held_seconds s) instant)

-- the segment lasts, and has the key
unfoldable pub lasts_in : ℕ → Segment → Bool
lasts_in key s = lasting s && eqb (key_number s.key) key

-- the lengths of segments, summed in order from `sum`
abbrev pub summed_from : Float → List Segment → Float
summed_from sum segments = fold (add binary64) sum (map held_seconds segments)

-- the lengths of all segments, from -0
unfoldable pub total_of : List Segment → Float
total_of segments = summed_from minus_zero segments

-- a key's seconds: the lengths of its lasting segments, from +0
unfoldable pub seconds_of : List Segment → ℕ → Float
seconds_of segments key = summed_from plus_zero (passing (lasts_in key) segments)

-- the key numbers of the lasting segments
unfoldable pub lasting_keys : List Segment → List ℕ
lasting_keys segments = map (λ (s : Segment). key_number s.key) (passing lasting segments)

-- the key with the most seconds among the others, of equal ones the one first met last
unfoldable pub rival_of : ℕ → List Segment → Standing Float
rival_of reported segments = last_largest total_order (seconds_of segments) (keys_met (without reported (lasting_keys segments)))

-- the part of all seconds, as an f32
unfoldable pub coverage_of : Float → Float → Float
coverage_of total sum = converted binary32 (div binary64 sum total)

-- coverage + 2^-23 is below the threshold
unfoldable pub lacks : Float → Float → Bool
lacks threshold coverage = lt (add binary32 coverage epsilon) threshold

-- an alternate, from its parts
abbrev pub alternate : ℕ → Float → Alternate
alternate key coverage = record { key = key; coverage = coverage }

-- a key with so many seconds is named unless its coverage lacks
abbrev pub named_unless_lacking : Float → Float → Standing Float → Option Alternate
named_unless_lacking threshold total nobody = None
named_unless_lacking threshold total (leads key sum) = cond (lacks threshold (coverage_of total sum)) None (Some (alternate key (coverage_of total sum)))

-- a threshold of 0 or less names nobody, nor do segments that last an instant together
unfoldable pub alternate_of : ℕ → Float → List Segment → Option Alternate
alternate_of reported threshold segments =
    cond (le threshold plus_zero || eqb (length segments) 0) None
    (cond (le (total_of segments) instant) None
    (named_unless_lacking threshold (total_of segments) (rival_of reported segments)))

-- the answer's key number: 24 where there is no alternate
abbrev pub alternate_number : Option Alternate → ℕ
alternate_number None = 24
alternate_number (Some a) = a.key

-- the answer's coverage: 0 where there is no alternate
abbrev pub alternate_coverage : Option Alternate → Float
alternate_coverage None = plus_zero
alternate_coverage (Some a) = a.coverage
