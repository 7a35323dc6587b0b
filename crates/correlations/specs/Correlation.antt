-- The correlation of a chroma with a key profile, written from the Rust's `correlation`, and whether its divisor was held up. Definitions only.
use Rattle.std.specs.Prelude.{ℕ, ◌+◌, ◌-◌, ◌%◌, Bool, not, List, get_or, Float}
use Rattle.std.specs.Float.{nan, binary32}
use Rattle.std.specs.Float.Ieee.{of_bits, add, sub, mul, div, le}
use Rattle.laws.specs.Turns.{turns}
use Rattle.laws.specs.Values.{plus_zero, epsilon}
use Rattle.laws.specs.Pick.{maximum_number}
use Rattle.numbers.specs.Sum.{sum_of}
use Rattle.roots.specs.Root.{root_of}

-- the mean of twelve values; 0x4140_0000 is 12
abbrev pub mean_of : List Float → Float
mean_of values = div binary32 (sum_of 12 values) (of_bits binary32 0x4140_0000)

-- value i less the mean
abbrev pub deviation : List Float → Float → ℕ → Float
deviation values mean i = sub binary32 (get_or values i nan) mean

-- the profile's value for pitch class i: it is read rotated by the root
abbrev pub rotated : ℕ → ℕ → ℕ
rotated root i = (i + 12 - root) % 12

-- the products of two rows of deviations, over the pitch classes from C up, summed from +0
abbrev pub summed : (ℕ → Float) → (ℕ → Float) → Float
summed a b = turns (λ (i : ℕ) (sum : Float). add binary32 sum (mul binary32 (a i) (b i))) 12 0 plus_zero

-- the sums of a correlation: products, and squares of either side
pub record Sums : Type 0 where
  pub products : Float
  pub chroma_energy : Float
  pub profile_energy : Float

-- of chroma and profile, and of either with itself; the profile's squares are summed in rotated order too
unfoldable pub sums_of : List Float → List Float → ℕ → Float → Float → Sums
sums_of chroma profile root mean profile_mean =
    let a : ℕ → Float = deviation chroma mean in
    let b : ℕ → Float = λ (i : ℕ). deviation profile profile_mean (rotated root i) in
    record { products = summed a b; chroma_energy = summed a a; profile_energy = summed b b }

-- the root of both squares
abbrev pub energy_root : Sums → Float
energy_root s = root_of (mul binary32 s.chroma_energy s.profile_energy)

-- the products over that root, which is held up by epsilon
unfoldable pub quotient_of : Sums → Float
quotient_of s = div binary32 s.products (maximum_number (energy_root s) epsilon)

-- the correlation of a chroma with a profile at a root
unfoldable pub correlation_of : List Float → List Float → ℕ → Float
correlation_of chroma profile root = quotient_of (sums_of chroma profile root (mean_of chroma) (mean_of profile))

-- epsilon takes the place of such a root: it is below epsilon, or a NaN
unfoldable pub held_up : Float → Bool
held_up root = not (le epsilon root)

-- it did so where a chroma is correlated with a profile at a root
unfoldable pub held_up_at : List Float → List Float → ℕ → Bool
held_up_at chroma profile root = held_up (energy_root (sums_of chroma profile root (mean_of chroma) (mean_of profile)))
