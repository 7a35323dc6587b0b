-- Only for the code's own steps: no promise names it. One row at eight frame positions, a hop apart: each by itself, as the definitions of constant-Q have it. Definitions only.
use Rattle.std.specs.Prelude.{ℕ, ◌+◌, ◌*◌, ◌<◌, ◌≤◌, List, Float}
use Rattle.laws.specs.Front.{list}
use Rattle.filters.specs.Resonator.{power_of}
use Rattle.filters.specs.declared.four.Four.{Four}
use Rattle.filters.specs.declared.resonator.Delay.{Delay}
use Rattle.constant_q.specs.ConstantQ.{per_count}
use Rattle.constant_q.specs.inside.Lanes.{lane_power, four_delays}
use Rattle.constant_q.specs.declared.lanes.Lane.{Lane}
use Rattle.blocks.specs.declared.eight.Eight.{Eight}

-- the same row some samples later
abbrev pub later_by : ℕ → Lane → Lane
later_by by lane = record { start = lane.start + by; first = lane.first; count = lane.count; coefficient = lane.coefficient }

-- a row at four positions, a hop apart
abbrev pub four_apart : ℕ → Lane → Four Lane
four_apart hop lane = record { a = lane; b = later_by hop lane; c = later_by (2 * hop) lane; d = later_by (3 * hop) lane }

-- the row lies on a track of so many samples and within so many window values, at the first of eight positions and at the last
pub record EightLie (samples windows hop : ℕ) (lane : Lane) : Type 0 where
  pub on_track : lane.start + 7 * hop + lane.count ≤ samples
  pub in_windows : lane.first + lane.count ≤ windows
  pub short : lane.count < 0x1_0000_0000

-- each of twice four resonators alone, after n values
unfoldable pub eight_delays : List Float → List Float → Four Lane → Four Lane → ℕ → Eight
eight_delays samples windows early late n = record { early = four_delays samples windows early n; late = four_delays samples windows late n }

-- the powers that four resonators end with
unfoldable pub powers_left : Four Lane → Four Delay → Four Float
powers_left lanes d =
    record {
      a = per_count lanes.a.count (power_of lanes.a.coefficient d.a);
      b = per_count lanes.b.count (power_of lanes.b.coefficient d.b);
      c = per_count lanes.c.count (power_of lanes.c.coefficient d.c);
      d = per_count lanes.d.count (power_of lanes.d.coefficient d.d);
    }

-- the power of the row at each of eight positions
unfoldable pub eight_powers : List Float → List Float → ℕ → Lane → List Float
eight_powers samples windows hop lane = list (λ (j : ℕ). lane_power samples windows (later_by (j * hop) lane)) 8
