-- Onset weights, written from the Rust's `compute_onset_weights`. Definitions only.
use Rattle.std.specs.Prelude.{ℕ, ◌-◌, cond, List, eqb, get_or, Float}
use Rattle.std.specs.Float.{nan, binary32}
use Rattle.std.specs.Float.Ieee.{of_bits, add, sub, mul}
use Rattle.laws.specs.Values.{plus_zero, one}
use Rattle.laws.specs.Pick.{maximum_number}
use Rattle.roots.specs.Root.{root_of}

-- 1 and four times the rise; 0x4080_0000 is 4
unfoldable pub rise_weight : Float → Float → Float
rise_weight low high = add binary32 one (mul binary32 (maximum_number (sub binary32 high low) plus_zero) (of_bits binary32 0x4080_0000))

-- 1 and four times the rise of the energies' square roots
unfoldable pub onset_weight : Float → Float → Float
onset_weight before energy = rise_weight (root_of before) (root_of energy)

-- 1 for the first frame
unfoldable pub weight_at : List Float → ℕ → Float
weight_at energies j = cond (eqb j 0) one (onset_weight (get_or energies (j - 1) nan) (get_or energies j nan))
