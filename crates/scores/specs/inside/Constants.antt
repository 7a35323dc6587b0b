-- What depends on the profiles alone, as numbers: their means, and their energies at the twelve roots. No promise names it. Definitions and the statement.
use Rattle.std.specs.Prelude.{ℕ, ◌<◌, ◌≡◌, List, [], ◌∷◌, map, get_or, Float}
use Rattle.std.specs.Float.{nan, binary32}
use Rattle.std.specs.Float.Ieee.{of_bits}
use Rattle.correlations.specs.Correlation.{mean_of}
use Rattle.correlations.specs.inside.Divisors.{energy_at}
use Rattle.scores.specs.Profiles.{profile_at}

-- the means, by row of the table: 3.4825003 3.7091668 3.2083333 3.2083333 4.0833335 4.0833335 0.081816666 0.082225
unfoldable pub means : List Float
means = map (of_bits binary32) (0x405e_e149 ∷ 0x406d_62fd ∷ 0x404d_5555 ∷ 0x404d_5555 ∷ 0x4082_aaab ∷ 0x4082_aaab ∷ 0x3da7_8f7f ∷ 0x3da8_6595 ∷ [])

-- bit patterns of the energies, each once: the order of the sum moves with the root, so a profile has up to three
abbrev energy_patterns : List ℕ
energy_patterns =
    -- Krumhansl major: 19.146223 19.146225 19.146227
    0x4199_2b77 ∷ 0x4199_2b78 ∷ 0x4199_2b79
    -- Krumhansl minor: 16.007092
    ∷ 0x4180_0e86
    -- Temperley, both: 16.729166 16.729168
    ∷ 0x4185_d555 ∷ 0x4185_d556
    -- EDMA major: 21.556665 21.556667 21.55667
    ∷ 0x41ac_740d ∷ 0x41ac_740e ∷ 0x41ac_740f
    -- EDMA minor: 14.676666 14.676667 14.676668
    ∷ 0x416a_d3a0 ∷ 0x416a_d3a1 ∷ 0x416a_d3a2
    -- learned major: 0.00055095664 0.0005509567
    ∷ 0x3a10_6e13 ∷ 0x3a10_6e14
    -- learned minor: 0.00045838242 0.00045838245 0.00045838248
    ∷ 0x39f0_530c ∷ 0x39f0_530d ∷ 0x39f0_530e
    ∷ []

-- the energies as values
unfoldable pub energies : List Float
energies = map (of_bits binary32) energy_patterns

-- which of them is a profile's at each root
unfoldable pub energy_places : List (List ℕ)
energy_places =
    (0 ∷ 0 ∷ 1 ∷ 1 ∷ 2 ∷ 2 ∷ 1 ∷ 0 ∷ 0 ∷ 0 ∷ 1 ∷ 1 ∷ [])
    ∷ (3 ∷ 3 ∷ 3 ∷ 3 ∷ 3 ∷ 3 ∷ 3 ∷ 3 ∷ 3 ∷ 3 ∷ 3 ∷ 3 ∷ [])
    ∷ (4 ∷ 5 ∷ 5 ∷ 5 ∷ 5 ∷ 5 ∷ 5 ∷ 5 ∷ 5 ∷ 5 ∷ 5 ∷ 5 ∷ [])
    ∷ (4 ∷ 5 ∷ 5 ∷ 5 ∷ 5 ∷ 5 ∷ 4 ∷ 5 ∷ 5 ∷ 5 ∷ 5 ∷ 5 ∷ [])
    ∷ (6 ∷ 6 ∷ 7 ∷ 8 ∷ 8 ∷ 8 ∷ 7 ∷ 7 ∷ 7 ∷ 7 ∷ 7 ∷ 7 ∷ [])
    ∷ (9 ∷ 10 ∷ 10 ∷ 10 ∷ 10 ∷ 10 ∷ 10 ∷ 10 ∷ 11 ∷ 10 ∷ 10 ∷ 9 ∷ [])
    ∷ (12 ∷ 12 ∷ 12 ∷ 13 ∷ 12 ∷ 12 ∷ 13 ∷ 12 ∷ 13 ∷ 12 ∷ 12 ∷ 12 ∷ [])
    ∷ (16 ∷ 15 ∷ 16 ∷ 14 ∷ 14 ∷ 14 ∷ 14 ∷ 15 ∷ 14 ∷ 15 ∷ 16 ∷ 16 ∷ [])
    ∷ []

-- the mean of the profile in a row
abbrev pub mean_at : ℕ → Float
mean_at row = get_or means row nan

-- the place of its energy at a root
abbrev pub place_at : ℕ → ℕ → ℕ
place_at row root = get_or (get_or energy_places row []) root 0

-- at every row and root, they are what the profiles give
pub record ConstantsOfProfiles : Type 0 where
  pub mean : (row : ℕ) → row < 8 → mean_at row ≡ mean_of (profile_at row)
  pub place : (row root : ℕ) → row < 8 → root < 12 → place_at row root < 17
  pub energy : (row root : ℕ) → row < 8 → root < 12 → get_or energies (place_at row root) nan ≡ energy_at (profile_at row) (mean_of (profile_at row)) root
