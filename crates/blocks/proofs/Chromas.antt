-- A block by one row more: at each of the eight positions the row is whole, and its power is that of the position's own definition.
use mathlib.Core.Path.{◌≡◌, refl, sym, ap, subst, ◌∙◌}
use mathlib.Core.Bool.{true}
use mathlib.Core.List.{List, []}
use Prim.Native.Nat.{ℕ, ◌+◌, ◌-◌, ◌*◌, ◌/◌, ◌<◌, ◌≤◌}
use native.Mathlib.Nat.{mul-le-mul_right, le_of_suc-le-suc}
use native.Mathlib.Omega.{arith}
use borrow.Author.Tests.{le-ltb}
use lib.Dec.{T, leb, leb→le}
use lib.Ieee.{Float, nan}
use lib.Ieee.Fits.{and_l, and_r}
use lib.ListN.{length, get_or}
use Rattle.laws.specs.Every.{every_entry}
use Rattle.laws.specs.Front.{list}
use Rattle.laws.specs.Turns.{turns}
use Rattle.laws.proofs.Every.{each}
use Rattle.laws.proofs.Front.{list_same, get_or-list, length-list}
use Rattle.laws.proofs.Turns.{turns-last}
use Rattle.calls.specs.Call.{Sheet}
use Rattle.filters.specs.Classes.{no_sums, class_added}
use Rattle.constant_q.specs.inside.Lanes.{lane_power}
use Rattle.constant_q.specs.inside.Powers.{lane_of, lane_at}
use Rattle.constant_q.specs.ConstantQ.{covered_from, covered_count, half_left, row_power, power_turn, constant_q_of}
use Rattle.constant_q.specs.declared.lanes.Lane.{Lane}
use Rattle.constant_q.proofs.Spans.{joined-within}
use Rattle.constant_q.proofs.Rows.{power-of-row}
use Rattle.blocks.specs.inside.Eight.{later_by, EightLie, eight_powers}
use Rattle.blocks.specs.inside.Block.{later_centre, whole_at, all_whole, Inside, empty_block, row_added, chromas_of}

-- a window that is whole at eight positions
pub record Whole (samples centre hop size : ℕ) : Type 0 where
  pub begins : size / 2 ≤ centre
  pub ends : centre - size / 2 + 7 * hop + size ≤ samples

whole_is : (samples centre hop size : ℕ) → centre + 7 * hop ≤ samples → T (whole_at samples centre hop size) → Whole samples centre hop size
unfolding whole_at
whole_is samples centre hop size near t =
    let last = centre - size / 2 + 7 * hop in
    let begins = leb→le (size / 2) centre (and_l (leb (size / 2) centre) (leb size (samples - last)) t) in
    let room = leb→le size (samples - last) (and_r (leb (size / 2) centre) (leb size (samples - last)) t) in
    record { begins = begins; ends = omega arith }

-- the same lane, whether it is moved by a position or placed around the position's centre
module _ {samples centre hop size : ℕ} (w : Whole samples centre hop size) (by : ℕ) (l : by ≤ 7 * hop) where
  same_start : covered_from size centre + by ≡ covered_from size (centre + by)
  same_start = let b = w.begins in omega arith

  whole-count : covered_count size (centre + by) samples ≡ size
  whole-count = let b = w.begins in let e = w.ends in omega arith

  first_count : covered_count size centre samples ≡ size
  first_count = let b = w.begins in let e = w.ends in omega arith

  lane-moved : (coefficient : Float) (first : ℕ) → later_by by (lane_of size centre samples coefficient first) ≡ lane_of size (centre + by) samples coefficient first
  lane-moved coefficient first = λ i. record { start = same_start i; first = first; count = (first_count ∙ sym whole-count) i; coefficient = coefficient }

  half-left : half_left size (centre + by) samples ≡ true
  unfolding half_left
  half-left = rw (le-ltb (covered_count size (centre + by) samples) (size / 2) (subst (λ (n : ℕ). size / 2 ≤ n) (sym whole-count) (omega arith))) refl

module _ (s : Sheet) (samples : List Float) (centre hop : ℕ) where
  -- the sums of position j after k rows
  abbrev sums_at : ℕ → ℕ → List Float
  sums_at k j = turns (power_turn s samples (later_centre centre hop j)) k 0 no_sums

  -- of all eight
  abbrev pub block_after : ℕ → List (List Float)
  block_after k = list (sums_at k) 8

  pub block_start : {block : List (List Float)} → block ≡ empty_block → block ≡ block_after 0
  unfolding empty_block turns
  block_start e = e

  pub block-long : {block : List (List Float)} (k : ℕ) → block ≡ block_after k → length block ≡ 8
  block-long k b = ap length b ∙ length-list (sums_at k) 8

  pub block-end : {block : List (List Float)} (k : ℕ) → block ≡ block_after k → k ≡ length s.constant_q_lengths → block ≡ chromas_of s samples centre hop
  unfolding chromas_of constant_q_of
  block-end k b e = b ∙ ap block_after e

  module _ (inside : Inside (length samples) centre hop s.constant_q_lengths s.constant_q_coefficients (length s.constant_q_windows)) where
    abbrev size : ℕ → ℕ
    size k = get_or s.constant_q_lengths k 0

    abbrev lane : ℕ → Lane
    lane k = lane_at (length samples) centre s.constant_q_lengths s.constant_q_coefficients k

    whole_row : (k : ℕ) → k < length s.constant_q_lengths → Whole (length samples) centre hop (size k)
    unfolding all_whole every_entry
    whole_row k h = whole_is _ _ _ _ inside.near (each (λ (i : ℕ). whole_at (length samples) centre hop (size i)) (length s.constant_q_lengths) (subst T (sym inside.whole) tt) k h)

    pub row_lies : ((k : ℕ) → size k < 0x1_0000_0000) → (k : ℕ) → k < length s.constant_q_lengths → EightLie (length samples) (length s.constant_q_windows) hop (lane k)
    row_lies short k h =
        let w = whole_row k h in
        let begins = w.begins in
        let ends = w.ends in
        let fits = joined-within s.constant_q_lengths (length s.constant_q_lengths) k h in
        let joined = inside.joined in
        let least = short k in
        record { on_track = omega arith; in_windows = omega arith; short = omega arith }

    module _ (k : ℕ) (h : k < length s.constant_q_lengths) where
      -- the power of the row j positions later
      abbrev later : ℕ → Float
      later j = lane_power samples s.constant_q_windows (later_by (j * hop) (lane k))

      power-is : (j : ℕ) → j < 8 → later j ≡ row_power s samples (later_centre centre hop j) k
      power-is j l =
          let by : j * hop ≤ 7 * hop = mul-le-mul_right hop (le_of_suc-le-suc l) in
          ap (lane_power samples s.constant_q_windows) (lane-moved (whole_row k h) (j * hop) by _ _) ∙ power-of-row s samples (later_centre centre hop j) k

      sums-more : (j : ℕ) → j < 8 → class_added s.head.minimum_midi_note k (later j) (sums_at k j) ≡ sums_at (k + 1) j
      sums-more j l =
          let by : j * hop ≤ 7 * hop = mul-le-mul_right hop (le_of_suc-le-suc l) in
          rw (power-is j l, turns-last (power_turn s samples (later_centre centre hop j)) k no_sums, half-left (whole_row k h) (j * hop) by) refl

      pub block_more : {row : Lane} {powers : List Float} {block after : List (List Float)} → row ≡ lane k → powers ≡ eight_powers samples s.constant_q_windows hop row → block ≡ block_after k → after ≡ row_added s.head.minimum_midi_note k powers block → after ≡ block_after (k + 1)
      unfolding row_added eight_powers
      block_more {row} {powers} {block} {after} r p b a =
          let power : (j : ℕ) → j < 8 → get_or powers j nan ≡ later j = λ (j : ℕ) (l : j < 8). rw (p, r) (get_or-list later 8 j nan l) in
          let sums : (j : ℕ) → j < 8 → get_or block j [] ≡ sums_at k j = λ (j : ℕ) (l : j < 8). rw b (get_or-list (sums_at k) 8 j [] l) in
          a ∙ list_same _ (sums_at (k + 1)) 8 (λ (j : ℕ) (l : j < 8). rw (power j l, sums j l) (sums-more j l))
