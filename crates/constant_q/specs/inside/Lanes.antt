-- Only for the code's own steps: no promise names it. Rows around a centre, one by itself or four side by side. Definitions only.
use Rattle.std.specs.Prelude.{ℕ, ◌+◌, ◌<◌, ◌≤◌, min, List, slice_index_or, Float}
use Rattle.std.specs.Float.{nan, binary32}
use Rattle.std.specs.Float.Ieee.{mul}
use Rattle.filters.specs.Resonator.{resonated, power_of}
use Rattle.filters.specs.Four.{stepped_four}
use Rattle.filters.specs.inside.Alone.{four_alone}
use Rattle.filters.specs.declared.resonator.Delay.{Delay}
use Rattle.filters.specs.declared.four.Four.{Four}
use Rattle.constant_q.specs.ConstantQ.{per_count}
use Rattle.constant_q.specs.declared.lanes.Lane.{Lane}

-- value i of a lane: a sample times its window value, whatever the sample is
abbrev pub lane_value : List Float → List Float → Lane → ℕ → Float
lane_value samples windows lane i = mul binary32 (slice_index_or samples (lane.start + i) nan) (slice_index_or windows (lane.first + i) nan)

-- its resonator after n values
abbrev pub lane_delay : List Float → List Float → Lane → ℕ → Delay
lane_delay samples windows lane n = resonated lane.coefficient (lane_value samples windows lane) n

-- the power of a lane
unfoldable pub lane_power : List Float → List Float → Lane → Float
lane_power samples windows lane = per_count lane.count (power_of lane.coefficient (lane_delay samples windows lane lane.count))

-- the lane lies on a track of so many samples and within so many window values, and is no longer than a number of 32 bits says
pub record Lies (samples windows : ℕ) (lane : Lane) : Type 0 where
  pub on_track : lane.start + lane.count ≤ samples
  pub in_windows : lane.first + lane.count ≤ windows
  pub short : lane.count < 0x1_0000_0000

-- so do four
pub record FourLie (samples windows : ℕ) (lanes : Four Lane) : Type 0 where
  pub a : Lies samples windows lanes.a
  pub b : Lies samples windows lanes.b
  pub c : Lies samples windows lanes.c
  pub d : Lies samples windows lanes.d

-- the count that all four reach
abbrev pub fewest_of : Four Lane → ℕ
fewest_of lanes = min (min lanes.a.count lanes.b.count) (min lanes.c.count lanes.d.count)

-- value i of each
abbrev pub four_values : List Float → List Float → Four Lane → ℕ → Four Float
four_values samples windows lanes i =
    record { a = lane_value samples windows lanes.a i; b = lane_value samples windows lanes.b i; c = lane_value samples windows lanes.c i; d = lane_value samples windows lanes.d i }

-- how their resonators are tuned
abbrev pub four_coefficients : Four Lane → Four Float
four_coefficients lanes = record { a = lanes.a.coefficient; b = lanes.b.coefficient; c = lanes.c.coefficient; d = lanes.d.coefficient }

-- four resonators after value i of each lane
abbrev pub stepped_lanes : List Float → List Float → Four Lane → ℕ → Four Delay → Four Delay
stepped_lanes samples windows lanes i delays = stepped_four (four_coefficients lanes) (four_values samples windows lanes i) delays

-- each of four resonators alone, after n values
abbrev pub four_delays : List Float → List Float → Four Lane → ℕ → Four Delay
four_delays samples windows lanes n = four_alone (four_coefficients lanes) (four_values samples windows lanes) n

-- the power of each of four lanes alone
unfoldable pub four_powers : List Float → List Float → Four Lane → Four Float
four_powers samples windows lanes =
    record {
      a = lane_power samples windows lanes.a;
      b = lane_power samples windows lanes.b;
      c = lane_power samples windows lanes.c;
      d = lane_power samples windows lanes.d;
    }
