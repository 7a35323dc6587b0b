-- Shifting a chroma between its bins, written from the Rust's `shift_chroma`, over the direction in which a bin reads. Definitions and the statements.
use Rattle.std.specs.Prelude.{◌≡◌, ℕ, ◌+◌, ◌-◌, ◌%◌, ◌<◌, cond, List, length, ℤ, pos, negsuc, from_bits, slice_index_or, Float}
use Rattle.std.specs.Float.{nan, binary32}
use Rattle.std.specs.Float.Ieee.{add, sub, mul, lt, of_int, to_signed}
use Rattle.laws.specs.Front.{list}
use Rattle.laws.specs.Values.{one, magnitude_of}
use Rattle.floors.specs.Floor.{floored}

-- Rust's `rem_euclid(12)`: -1 is 11
abbrev pub remainder : ℤ → ℕ
remainder (pos n) = n % 12
remainder (negsuc n) = 11 - n % 12

-- the pitch class of a float: Rust's `as i32`, which saturates and takes a NaN for 0, around the circle
unfoldable pub class_of : Float → ℕ
class_of x = remainder (to_signed 31 x)

-- between two bins, by how far the place is past the first
unfoldable pub blended : Float → Float → Float → Float
blended lower upper fraction = add binary32 (mul binary32 lower (sub binary32 one fraction)) (mul binary32 upper fraction)

-- what stands at a place between the bins: the floor's bin and the next one
unfoldable pub read_at : List Float → Float → Float
read_at chroma place = blended (slice_index_or chroma (class_of (floored place)) nan) (slice_index_or chroma ((class_of (floored place) + 1) % 12) nan) (sub binary32 place (floored place))

-- every bin reads away from its own place, in a direction
unfoldable pub shifted : (Float → Float → Float) → List Float → Float → List Float
shifted direction chroma offset = list (λ (bin : ℕ). read_at chroma (direction (of_int binary32 (pos bin)) offset)) 12

-- a shift in a direction, made only beyond 0.01 either way
unfoldable pub retuned : (Float → Float → Float) → List Float → Float → List Float
retuned direction chroma offset = cond (lt (from_bits binary32 0x3c23_d70a) (magnitude_of offset)) (shifted direction chroma offset) chroma

-- the Rust's direction: bin b reads at b minus the offset
abbrev pub shifted_of : List Float → Float → List Float
shifted_of = shifted (sub binary32)

-- retuned in the Rust's direction
abbrev pub retuned_of : List Float → Float → List Float
retuned_of = retuned (sub binary32)

-- ---- what holds in every direction
module _ (direction : Float → Float → Float) (chroma : List Float) (offset : Float) where
  -- a bin of the shifted chroma is what stands at its place
  abbrev pub EachBinReads : Type 0
  EachBinReads = (bin : ℕ) → bin < 12 → slice_index_or (shifted direction chroma offset) bin nan ≡ read_at chroma (direction (of_int binary32 (pos bin)) offset)

  -- a chroma of twelve stays one of twelve
  abbrev pub TwelveStay : Type 0
  TwelveStay = length chroma ≡ 12 → length (retuned direction chroma offset) ≡ 12
