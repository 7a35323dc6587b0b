-- A row at eight positions: where all eight lie, and what the resonators side by side leave of each.
use mathlib.Core.Path.{◌≡◌, refl, ap}
use mathlib.Core.List.{List, [], ◌∷◌}
use Prim.Native.Nat.{ℕ, ◌+◌, ◌*◌, ◌<◌, ◌≤◌}
use native.Mathlib.Omega.{arith}
use lib.Ieee.{Float}
use Rattle.laws.specs.Front.{list}
use Rattle.filters.specs.inside.Alone.{four_alone}
use Rattle.filters.specs.declared.four.Four.{Four}
use Rattle.constant_q.specs.inside.Lanes.{FourLie, lane_power, four_delays}
use Rattle.constant_q.specs.declared.lanes.Lane.{Lane}
use Rattle.blocks.specs.inside.Eight.{later_by, four_apart, EightLie, eight_delays, powers_left, eight_powers}
use Rattle.blocks.specs.declared.eight.Eight.{Eight}

four-lie : {samples windows : ℕ} (hop : ℕ) (lane : Lane) → lane.start + 3 * hop + lane.count ≤ samples → lane.first + lane.count ≤ windows → lane.count < 0x1_0000_0000 → FourLie samples windows (four_apart hop lane)
four-lie hop lane last within short =
    record {
      a = record { on_track = omega arith; in_windows = within; short = short };
      b = record { on_track = omega arith; in_windows = within; short = short };
      c = record { on_track = omega arith; in_windows = within; short = short };
      d = record { on_track = omega arith; in_windows = within; short = short };
    }

module _ {samples windows hop : ℕ} {lane : Lane} (lie : EightLie samples windows hop lane) where
  pub early-lie : FourLie samples windows (four_apart hop lane)
  early-lie = four-lie hop lane (omega (arith, lie.on_track)) lie.in_windows lie.short

  pub late-lie : FourLie samples windows (four_apart hop (later_by (4 * hop) lane))
  late-lie = four-lie hop (later_by (4 * hop) lane) (omega (arith, lie.on_track)) lie.in_windows lie.short

module _ (samples windows : List Float) (hop : ℕ) (lane : Lane) where
  -- the power of the row that starts at a sample
  abbrev from : ℕ → Float
  from start = lane_power samples windows (record { start = start; first = lane.first; count = lane.count; coefficient = lane.coefficient })

  eight-same : {a b c d e f g h a' b' c' d' e' f' g' h' : Float} → a ≡ a' → b ≡ b' → c ≡ c' → d ≡ d' → e ≡ e' → f ≡ f' → g ≡ g' → h ≡ h' → (a ∷ b ∷ c ∷ d ∷ e ∷ f ∷ g ∷ h ∷ []) ≡ (a' ∷ b' ∷ c' ∷ d' ∷ e' ∷ f' ∷ g' ∷ h' ∷ [])
  eight-same p q r s t u v w = rw (p, q, r, s, t, u, v, w)

  abbrev powers_at : Four Lane → Four Lane → List Float
  powers_at early late =
      let first = powers_left early (four_delays samples windows early lane.count) in
      let second = powers_left late (four_delays samples windows late lane.count) in
      (first.a ∷ first.b ∷ first.c ∷ first.d ∷ second.a ∷ second.b ∷ second.c ∷ second.d ∷ [])

  told-by-starts : powers_at (four_apart hop lane) (four_apart hop (later_by (4 * hop) lane)) ≡ eight_powers samples windows hop lane
  unfolding eight_powers list powers_left four_alone lane_power
  told-by-starts =
      let s = lane.start in
      let a : s ≡ s + 0 * hop = omega arith in
      let b : s + hop ≡ s + 1 * hop = omega arith in
      let c : s + 2 * hop ≡ s + 2 * hop = refl in
      let f : s + 4 * hop + hop ≡ s + 5 * hop = omega arith in
      let g : s + 4 * hop + 2 * hop ≡ s + 6 * hop = omega arith in
      let h : s + 4 * hop + 3 * hop ≡ s + 7 * hop = omega arith in
      eight-same (ap from a) (ap from b) refl refl refl (ap from f) (ap from g) (ap from h)

  pub eight-told : {early late : Four Lane} {state : Eight} {first second : Four Float} → early ≡ four_apart hop lane → late ≡ four_apart hop (later_by (4 * hop) lane) → state ≡ eight_delays samples windows early late lane.count → first ≡ powers_left early state.early → second ≡ powers_left late state.late
      → (first.a ∷ first.b ∷ first.c ∷ first.d ∷ second.a ∷ second.b ∷ second.c ∷ second.d ∷ []) ≡ eight_powers samples windows hop lane
  unfolding eight_delays
  eight-told e l s p q = rw (p, q, s, e, l) told-by-starts
