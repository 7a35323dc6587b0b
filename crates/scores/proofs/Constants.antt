-- The checker computes the constants from the profiles, once for all rows and roots.
use mathlib.Core.Path.{◌≡◌, refl, ap, ◌∙◌}
use Prim.Native.Nat.{ℕ, ◌<◌}
use mathlib.Core.List.{[]}
use lib.Dec.{T, ltb, ltb→lt}
use lib.ListN.{get_or}
use lib.Ieee.{Float, nan, of_bits, add, sub, mul, div}
use Rattle.laws.specs.Turns.{turns}
use Rattle.laws.specs.Every.{every}
use Rattle.laws.specs.Front.{list}
use Rattle.laws.proofs.Every.{each}
use Rattle.laws.proofs.Front.{list-entry}
use Rattle.numbers.specs.Sum.{sum_of}
use Rattle.correlations.specs.Correlation.{mean_of}
use Rattle.correlations.specs.inside.Divisors.{energy_at}
use Rattle.scores.specs.Profiles.{profiles, profile_at}
use Rattle.scores.specs.inside.Constants.{means, energies, energy_places, mean_at, place_at, ConstantsOfProfiles}

-- the eight means
means-computed : list mean_at 8 ≡ list (λ (row : ℕ). mean_of (profile_at row)) 8
unfolding list means profiles profile_at sum_of turns of_bits add div
means-computed = refl

-- the 96 energies, from the means as numbers
energies-computed : list (λ (row : ℕ). list (λ (root : ℕ). get_or energies (place_at row root) nan) 12) 8 ≡ list (λ (row : ℕ). list (energy_at (profile_at row) (mean_at row)) 12) 8
unfolding list means energies energy_places profiles profile_at energy_at turns of_bits add sub mul
energies-computed = refl

-- the 96 places
places-computed : T (every (λ (row : ℕ). every (λ (root : ℕ). ltb (place_at row root) 17) 12) 8)
unfolding every energy_places
places-computed = tt

mean-is : (row : ℕ) → row < 8 → mean_at row ≡ mean_of (profile_at row)
mean-is = list-entry mean_at (λ (row : ℕ). mean_of (profile_at row)) 8 nan means-computed

pub constants-of-profiles : ConstantsOfProfiles
constants-of-profiles = record {
  mean = mean-is;
  place = λ row root h l. ltb→lt (place_at row root) 17 (each (λ (n : ℕ). ltb (place_at row n) 17) 12 (each (λ (m : ℕ). every (λ (n : ℕ). ltb (place_at m n) 17) 12) 8 places-computed row h) root l);
  energy = λ row root h l. list-entry _ _ 12 nan (list-entry _ _ 8 [] energies-computed row h) root l ∙ ap (λ (mean : Float). energy_at (profile_at row) mean root) (mean-is row h);
}
