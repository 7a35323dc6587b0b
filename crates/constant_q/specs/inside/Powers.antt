-- Only for the code's own steps: no promise names it. The powers of all rows around a centre, over the lists that the code has. Definitions only.
use Rattle.std.specs.Prelude.{◌≡◌, ℕ, ◌+◌, ◌≤◌, cond, List, [], length, slice_index, slice_index_or, Float}
use Rattle.std.specs.Float.{nan}
use Rattle.laws.specs.Front.{list}
use Rattle.laws.specs.Turns.{turns}
use Rattle.sheets.specs.Sheet.{joined_length}
use Rattle.calls.specs.Call.{Sheet}
use Rattle.calls.specs.inside.Parts.{sheet_of}
use Rattle.filters.specs.Classes.{no_sums, class_added}
use Rattle.filters.specs.declared.four.Four.{Four}
use Rattle.constant_q.specs.ConstantQ.{covered_from, covered_count, half_left}
use Rattle.constant_q.specs.inside.Lanes.{lane_power}
use Rattle.constant_q.specs.declared.span.Span.{Span}
use Rattle.constant_q.specs.declared.lanes.Lane.{Lane}
use Rattle.constant_q.specs.declared.powers.Placed.{Placed}
use Rattle.constant_q.specs.declared.powers.PlacedLanes.{PlacedLanes}

-- the sheet of these rows alone: constant-Q reads nothing else of a sheet
abbrev pub constant_q_rows : ℕ → List ℕ → List Float → List Float → Sheet
constant_q_rows lowest lengths coefficients windows = sheet_of (record { rate = 0; minimum_midi_note = lowest; maximum_midi_note = 0; frame_size = 0 }) [] [] [] lengths coefficients windows

-- what a window of this size around the centre covers
abbrev pub covered_span : ℕ → ℕ → ℕ → Span
covered_span size centre samples = record { start = covered_from size centre; count = covered_count size centre samples }

-- the row with a window of this size around the centre, which begins at first of the joined ones
abbrev pub lane_of : ℕ → ℕ → ℕ → Float → ℕ → Lane
lane_of size centre samples coefficient first = record { start = covered_from size centre; first = first; count = covered_count size centre samples; coefficient = coefficient }

-- row k around the centre: its window begins where those of the rows before it end
abbrev pub lane_at : ℕ → ℕ → List ℕ → List Float → ℕ → Lane
lane_at samples centre lengths coefficients k = lane_of (slice_index lengths k) centre samples (slice_index_or coefficients k nan) (joined_length lengths k)

-- the power of row k
abbrev pub power_at : List Float → ℕ → List ℕ → List Float → List Float → ℕ → Float
power_at samples centre lengths coefficients windows k = lane_power samples windows (lane_at (length samples) centre lengths coefficients k)

-- of all rows
unfoldable pub powers_of : List Float → ℕ → List ℕ → List Float → List Float → List Float
powers_of samples centre lengths coefficients windows = list (power_at samples centre lengths coefficients windows) (length lengths)

-- row k's power, as it stands in a list, is added to its class where half of its window is left
abbrev pub listed_turn : ℕ → ℕ → ℕ → List ℕ → List Float → ℕ → List Float → List Float
listed_turn lowest samples centre lengths powers k sums = cond (half_left (slice_index lengths k) centre samples) (class_added lowest k (slice_index_or powers k nan) sums) sums

-- the powers of a list by class, in row order
unfoldable pub powers_by_class : ℕ → ℕ → ℕ → List ℕ → List Float → List Float
powers_by_class lowest samples centre lengths powers = turns (listed_turn lowest samples centre lengths powers) (length powers) 0 no_sums

-- ---- row by row, and four at a time

-- what the powers are written from: a centre on a track of so many samples, and windows that end where they must
pub record Readable (samples centre : ℕ) (lengths : List ℕ) (coefficients : List Float) (end : ℕ) : Type 0 where
  pub near : centre ≤ samples
  pub tuned : length lengths ≤ length coefficients
  pub joined : joined_length lengths (length lengths) ≡ end

-- row k, and where the window behind its own begins
abbrev pub placed_at : ℕ → ℕ → List ℕ → List Float → ℕ → Placed
placed_at samples centre lengths coefficients k = record { lane = lane_at samples centre lengths coefficients k; next = joined_length lengths (k + 1) }

-- rows k to k + 3
abbrev pub lanes_from : ℕ → ℕ → List ℕ → List Float → ℕ → Four Lane
lanes_from samples centre lengths coefficients k =
    record {
      a = lane_at samples centre lengths coefficients k;
      b = lane_at samples centre lengths coefficients (k + 1);
      c = lane_at samples centre lengths coefficients (k + 2);
      d = lane_at samples centre lengths coefficients (k + 3);
    }

-- with where the window behind them begins
abbrev pub four_from : ℕ → ℕ → List ℕ → List Float → ℕ → PlacedLanes
four_from samples centre lengths coefficients k = record { lanes = lanes_from samples centre lengths coefficients k; next = joined_length lengths (k + 4) }
