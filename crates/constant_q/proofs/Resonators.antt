-- A lane's resonator by one value more, and those of four lanes side by side.
use Rattle.std.proofs.Common.{◌≡◌, ℕ, ◌+◌, List}
use lib.Ieee.{Float}
use Rattle.filters.specs.Resonator.{stepped_of}
use Rattle.filters.proofs.Fours.{resonated-more, four-more}
use Rattle.filters.specs.declared.four.Four.{Four}
use Rattle.constant_q.specs.inside.Lanes.{lane_value, lane_delay, four_values, four_coefficients, stepped_lanes, four_delays}
use Rattle.constant_q.specs.declared.lanes.Lane.{Lane}

module _ (samples windows : List Float) where
  pub lane-more : (lane : Lane) (n : ℕ) → stepped_of lane.coefficient (lane_value samples windows lane n) (lane_delay samples windows lane n) ≡ lane_delay samples windows lane (n + 1)
  lane-more lane n = resonated-more lane.coefficient (lane_value samples windows lane) n

  pub lanes-more : (lanes : Four Lane) (n : ℕ) → stepped_lanes samples windows lanes n (four_delays samples windows lanes n) ≡ four_delays samples windows lanes (n + 1)
  lanes-more lanes n = four-more (four_coefficients lanes) (four_values samples windows lanes) n
