-- The chroma from listed powers is the one of the definition, which reads the constant-Q rows of a sheet and nothing else.
use Rattle.std.proofs.Common.{◌≡◌, ℕ, ◌<◌, List, length, refl, arith}
use lib.Ieee.{Float, nan}
use Rattle.laws.proofs.Turns.{turns-part}
use Rattle.laws.proofs.Front.{length-list, get_or-list}
use Rattle.calls.specs.Call.{Sheet}
use Rattle.filters.specs.Classes.{no_sums}
use Rattle.constant_q.specs.ConstantQ.{row_power, power_turn, constant_q_of}
use Rattle.constant_q.specs.inside.Lanes.{lane_power}
use Rattle.constant_q.specs.inside.Powers.{constant_q_rows, power_at, powers_of, listed_turn, powers_by_class}

-- a sheet's chroma is that of its rows
pub constant-q-by-rows : (s : Sheet) (samples : List Float) (centre : ℕ) → constant_q_of (constant_q_rows s.head.minimum_midi_note s.constant_q_lengths s.constant_q_coefficients s.constant_q_windows) samples centre ≡ constant_q_of s samples centre
unfolding constant_q_of row_power
constant-q-by-rows s samples centre = refl

module _ (s : Sheet) (samples : List Float) (centre : ℕ) where
  abbrev power : ℕ → Float
  power = power_at samples centre s.constant_q_lengths s.constant_q_coefficients s.constant_q_windows

  abbrev powers : List Float
  powers = powers_of samples centre s.constant_q_lengths s.constant_q_coefficients s.constant_q_windows

  -- the power of a row is that of its lane
  pub power-of-row : (k : ℕ) → power k ≡ row_power s samples centre k
  unfolding row_power lane_power
  power-of-row k = refl

  abbrev listed : ℕ → List Float → List Float
  listed = listed_turn s.head.minimum_midi_note (length samples) centre s.constant_q_lengths powers

  same_turn : (k : ℕ) (sums : List Float) → k < length s.constant_q_lengths → listed k sums ≡ power_turn s samples centre k sums
  unfolding powers_of
  same_turn k sums h = rw (get_or-list power (length s.constant_q_lengths) k nan h, power-of-row k) refl

  pub from-powers : powers_by_class s.head.minimum_midi_note (length samples) centre s.constant_q_lengths powers ≡ constant_q_of s samples centre
  unfolding powers_by_class powers_of constant_q_of
  from-powers =
      rw (length-list power (length s.constant_q_lengths))
      (turns-part (λ (sums : List Float). sums) listed (power_turn s samples centre) (length s.constant_q_lengths) 0 (λ k sums h. same_turn k sums (omega arith)) no_sums)
