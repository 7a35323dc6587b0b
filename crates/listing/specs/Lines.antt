-- Numbers and lines of a listing, as lists of ASCII codes, and how they are written. Definitions only.
use Rattle.std.specs.Prelude.{◌≡◌, ℕ, zero, suc, ◌+◌, ◌/◌, ◌%◌, cond, List, [], ◌∷◌, ◌++◌, ltb, length}
use Rattle.laws.specs.Front.{front}
use Rattle.keys.specs.Numbers.{key_at}
use Rattle.key_names.specs.Names.{name_of}

-- a list was written from the front of a slice: what the slice held before and holds after, and the list's length
pub record AtFront (xs before after : List ℕ) (count : ℕ) : Type 0 where
  pub size : count ≡ length xs
  pub here : after ≡ front xs before

-- a digit, 0 to 9
abbrev pub digit_code : ℕ → ℕ
digit_code d = 48 + d

-- a number in decimal digits without leading zeros, where it has at most so many
unfoldable pub decimal_in : ℕ → ℕ → List ℕ
decimal_in zero n = []
decimal_in (suc places) n = cond (ltb n 10) (digit_code n ∷ []) (decimal_in places (n / 10) ++ (digit_code (n % 10) ∷ []))

-- a number's digits; it is below 10 ^ 20, as every number of 64 bits is
unfoldable pub decimal_of : ℕ → List ℕ
decimal_of n = decimal_in 20 n

-- a blank
abbrev pub blank : ℕ
blank = 32

-- the end of a line
abbrev pub newline : ℕ
newline = 10

-- a number, and what stands behind it
unfoldable pub number_then : ℕ → ℕ → List ℕ
number_then n behind = decimal_of n ++ (behind ∷ [])

-- a line with the name of a key, by its number
unfoldable pub key_line : ℕ → List ℕ
key_line key = name_of (key_at key) ++ (newline ∷ [])

-- a segment's line: where it starts, where it ends, the name of its key
unfoldable pub line_of : ℕ → ℕ → ℕ → List ℕ
line_of start end key = number_then start blank ++ (number_then end blank ++ key_line key)

-- line 0, line 1, .., n of them one behind the other
unfoldable pub lines_of : (ℕ → List ℕ) → ℕ → List ℕ
lines_of line zero = []
lines_of line (suc n) = lines_of line n ++ line n
