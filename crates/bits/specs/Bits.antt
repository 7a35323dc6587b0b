-- Bits and bytes, most significant bit first. A bit is the number 0 or 1. Definitions only.
use Rattle.std.specs.Prelude.{List, [], ◌∷◌, ◌++◌, ℕ, zero, suc, ◌+◌, ◌-◌, ◌*◌, ◌/◌, ◌%◌, ◌^◌, ◌<◌, ◌≡◌, length, take, drop, get_or, replicate}

-- the low `width` bits of a number
unfoldable pub bits_of : ℕ → ℕ → List ℕ
bits_of zero value = []
bits_of (suc place) value = value / 2 ^ place % 2 ∷ bits_of place value

-- the number that bits spell
unfoldable pub number_of : List ℕ → ℕ
number_of [] = 0
number_of (bit ∷ bits) = bit * 2 ^ length bits + number_of bits

-- every entry is a byte, as in all that a caller lends
abbrev pub AllBytes : List ℕ → Type 0
AllBytes bytes = (i : ℕ) → get_or bytes i 0 < 2 ^ 8

-- the bits of bytes
unfoldable pub bits_of_bytes : List ℕ → List ℕ
bits_of_bytes [] = []
bits_of_bytes (byte ∷ bytes) = bits_of 8 byte ++ bits_of_bytes bytes

-- the first n bytes that bits spell
unfoldable pub bytes_cut : ℕ → List ℕ → List ℕ
bytes_cut zero bits = []
bytes_cut (suc n) bits = number_of (take 8 bits) ∷ bytes_cut n (drop 8 bits)

-- how many bytes hold so many bits
abbrev pub bytes_for : ℕ → ℕ
bytes_for count = (count + 7) / 8

-- bits with zero bits behind them, to fill the last byte
abbrev pub with_filler : List ℕ → List ℕ
with_filler bits = bits ++ replicate (bytes_for (length bits) * 8 - length bits) 0

-- bits as bytes, the last one filled with zero bits
abbrev pub bytes_of : List ℕ → List ℕ
bytes_of bits = bytes_cut (bytes_for (length bits)) (with_filler bits)

-- the numbers of these widths, one behind the other
abbrev pub field_bits : List ℕ → List ℕ → List ℕ
field_bits [] numbers = []
field_bits (width ∷ widths) [] = []
field_bits (width ∷ widths) (number ∷ numbers) = bits_of width number ++ field_bits widths numbers

-- the number that `width` bits from bit `at` on spell
abbrev pub field_at : List ℕ → ℕ → ℕ → ℕ
field_at bits at width = number_of (take width (drop at bits))

-- the numbers that bits spell in fields of these widths, one behind the other
abbrev pub fields_of : List ℕ → List ℕ → List ℕ
fields_of [] bits = []
fields_of (width ∷ widths) bits = field_at bits 0 width ∷ fields_of widths (drop width bits)

-- a number has these bits: it is no wider than they are, and they are its own
pub record HasBits (width number : ℕ) (bits : List ℕ) : Type 0 where
  pub fits : number < 2 ^ width
  pub same : bits_of width number ≡ bits
