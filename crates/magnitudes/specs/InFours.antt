-- Engine 1: four rows at a time and the odd rows at the end singly, written from the Rust's `goertzel_power_batch_4` and `accumulate_chroma_windowed`. Definitions only.
use Rattle.std.specs.Prelude.{ℕ, ◌+◌, ◌-◌, ◌*◌, ◌/◌, List, length, get_or, set, Float}
use Rattle.std.specs.Float.{nan}
use Rattle.laws.specs.Turns.{turns}
use Rattle.roots.specs.Root.{root_of}
use Rattle.filters.specs.Four.{same_for_four, four_resonated, put_four}
use Rattle.filters.specs.declared.four.Four.{Four}
use Rattle.filters.specs.declared.resonator.Delay.{Delay}
use Rattle.magnitudes.specs.Magnitudes.{frame_value, last_power, row_magnitude}

-- the coefficients of rows k to k + 3
abbrev pub coefficients_from : List Float → ℕ → Four Float
coefficients_from coefficients k = record { a = get_or coefficients k nan; b = get_or coefficients (k + 1) nan; c = get_or coefficients (k + 2) nan; d = get_or coefficients (k + 3) nan }

-- the powers that four resonators end with
abbrev pub last_powers : Four Float → Four Delay → Four Float
last_powers coefficients d = record { a = last_power coefficients.a d.a; b = last_power coefficients.b d.b; c = last_power coefficients.c d.c; d = last_power coefficients.d d.d }

-- the powers of four rows, whose resonators take each value of the frame together
unfoldable pub batch_powers : List Float → List Float → ℕ → Four Float → Four Float
batch_powers window samples start coefficients = last_powers coefficients (four_resonated coefficients (λ (i : ℕ). same_for_four (frame_value window samples start i)) (length window))

-- their square roots
abbrev pub roots_of : Four Float → Four Float
roots_of powers = record { a = root_of powers.a; b = root_of powers.b; c = root_of powers.c; d = root_of powers.d }

-- so many batches, each in its places
unfoldable pub put_batches : List Float → List Float → List Float → ℕ → ℕ → List Float → List Float
put_batches window coefficients samples start batches room = turns (λ (j : ℕ) (r : List Float). put_four (roots_of (batch_powers window samples start (coefficients_from coefficients (4 * j)))) (4 * j) r) batches 0 room

-- the rows from a row on, one by one
unfoldable pub put_singly : List Float → List Float → List Float → ℕ → ℕ → List Float → List Float
put_singly window coefficients samples start from room = turns (λ (k : ℕ) (r : List Float). set r k (row_magnitude window coefficients samples start k)) (length coefficients - from) from room

-- what the engine leaves in the room: as many batches as there are, then the odd rows
unfoldable pub in_fours : List Float → List Float → List Float → ℕ → List Float → List Float
in_fours window coefficients samples start room =
    let batches = length coefficients / 4 in
    put_singly window coefficients samples start (4 * batches) (put_batches window coefficients samples start batches room)
