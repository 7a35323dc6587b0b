-- Engine 0: all rows' resonators side by side, a value of the frame at a time. What they remember stands in two lists. Definitions only.
use Rattle.std.specs.Prelude.{ℕ, List, length, get_or, replicate, Float}
use Rattle.std.specs.Float.{nan}
use Rattle.laws.specs.Turns.{turns}
use Rattle.laws.specs.Front.{front, list}
use Rattle.laws.specs.Values.{plus_zero}
use Rattle.filters.specs.Resonator.{stepped_of}
use Rattle.filters.specs.declared.resonator.Delay.{Delay}
use Rattle.magnitudes.specs.Magnitudes.{frame_value, last_magnitude}

-- the last value of each row's resonator, and the one before it
pub record DelayLists : Type 0 where
  pub last : List Float
  pub before : List Float

-- the same, from its parts
abbrev pub delay_lists : List Float → List Float → DelayLists
delay_lists last before = record { last = last; before = before }

-- what row k's resonator remembers
abbrev pub delay_at : DelayLists → ℕ → Delay
delay_at d k = record { last = get_or d.last k nan; before = get_or d.before k nan }

-- the first n rows' resonators with these values
abbrev pub put_delays : (ℕ → Delay) → ℕ → DelayLists → DelayLists
put_delays f n d = delay_lists (front (list (λ (k : ℕ). (f k).last) n) d.last) (front (list (λ (k : ℕ). (f k).before) n) d.before)

-- row k's resonator after one value more
abbrev pub stepped_at : List Float → Float → DelayLists → ℕ → Delay
stepped_at coefficients x d k = stepped_of (get_or coefficients k nan) x (delay_at d k)

-- one value more for all
unfoldable pub stepped_rows : List Float → Float → DelayLists → DelayLists
stepped_rows coefficients x d = put_delays (stepped_at coefficients x d) (length coefficients) d

-- after n of the values, from the first on
unfoldable pub run_rows : List Float → (ℕ → Float) → ℕ → DelayLists → DelayLists
run_rows coefficients values n d = turns (λ (i : ℕ) (s : DelayLists). stepped_rows coefficients (values i) s) n 0 d

-- the magnitudes that all rows' resonators end with
unfoldable pub last_magnitudes : List Float → DelayLists → List Float
last_magnitudes coefficients d = list (λ (k : ℕ). last_magnitude (get_or coefficients k nan) (delay_at d k)) (length coefficients)

-- before the first value, with places for 256 rows
abbrev pub resting : DelayLists
resting = delay_lists (replicate 256 plus_zero) (replicate 256 plus_zero)

-- what the engine leaves in the room
unfoldable pub side_by_side : List Float → List Float → List Float → ℕ → List Float → List Float
side_by_side window coefficients samples start room = front (last_magnitudes coefficients (run_rows coefficients (frame_value window samples start) (length window) resting)) room
