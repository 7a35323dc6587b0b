-- How long lines can be.
use mathlib.Core.Path.{◌≡◌}
use mathlib.Core.List.{List, ◌++◌}
use Prim.Native.Nat.{ℕ, zero, suc, ◌+◌, ◌*◌, ◌≤◌}
use native.Mathlib.Nat.{suc-mul}
use native.Mathlib.Numerals.{add-one}
use native.Mathlib.Omega.{arith}
use lib.ListN.{length, length-append}
use Rattle.keys.specs.Numbers.{key_at}
use Rattle.key_names.proofs.Letters.{name-length, one-or-two}
use Rattle.listing.specs.Lines.{blank, number_then, key_line, line_of, lines_of}
use Rattle.listing.proofs.Decimals.{few-digits}

pub number_short : (n behind : ℕ) → length (number_then n behind) ≤ 21
unfolding number_then
number_short n behind = rw length-append (omega (arith, few-digits n))

pub key-short : (key : ℕ) → length (key_line key) ≤ 9
unfolding key_line
key-short key = rw length-append (omega (arith, name-length (key_at key), one-or-two (key_at key).tonic))

-- a line has the length of its parts
pub line-length : (start end key : ℕ) → length (line_of start end key) ≡ length (number_then start blank) + (length (number_then end blank) + length (key_line key))
unfolding line_of
line-length start end key = simp length-append

pub line-short : (start end key : ℕ) → length (line_of start end key) ≤ 51
line-short start end key = omega (arith, line-length start end key, number_short start blank, number_short end blank, key-short key)

-- one line more
pub lines_more : (line : ℕ → List ℕ) (n : ℕ) → lines_of line n ++ line n ≡ lines_of line (n + 1)
unfolding lines_of
lines_more line n = rw (add-one, lines_of)

pub lines-short : (line : ℕ → List ℕ) (n : ℕ) → ((i : ℕ) → length (line i) ≤ 51) → length (lines_of line n) ≤ n * 51
unfolding lines_of
lines-short line zero short = omega arith
lines-short line (suc n) short = let before = lines-short line n short in rw (length-append, suc-mul) (omega (arith, short n))
