-- Keys by number, and relative keys, written from the Rust. Definitions and the statement.
use Rattle.std.specs.Prelude.{◌≡◌, ◌↔◌, List, [], ◌∷◌, ℕ, ◌+◌, ◌%◌, ◌<◌, Bool, false, cond, get_or, T, ltb, eqb}
use Rattle.keys.specs.declared.Tonic.{Tonic}
use Rattle.keys.specs.declared.Tonic.TheVariants.{C, CSharp, D, DSharp, E, F, FSharp, G, GSharp, A, ASharp, B}
use Rattle.keys.specs.declared.Mode.{Mode}
use Rattle.keys.specs.declared.Mode.TheVariants.{Major, Minor}
use Rattle.keys.specs.declared.Key.{Key}

-- a tonic's number: `tonic as usize`
abbrev pub tonic_number : Tonic → ℕ
tonic_number C = 0
tonic_number CSharp = 1
tonic_number D = 2
tonic_number DSharp = 3
tonic_number E = 4
tonic_number F = 5
tonic_number FSharp = 6
tonic_number G = 7
tonic_number GSharp = 8
tonic_number A = 9
tonic_number ASharp = 10
tonic_number B = 11

-- PitchClass::ALL
unfoldable pub tonics : List Tonic
tonics = C ∷ CSharp ∷ D ∷ DSharp ∷ E ∷ F ∷ FSharp ∷ G ∷ GSharp ∷ A ∷ ASharp ∷ B ∷ []

-- 01's key number: the tonic for major, 12 + tonic for minor
abbrev pub numbered : Mode → ℕ → ℕ
numbered Major n = n
numbered Minor n = 12 + n

-- a key's number, from 0 to 23
abbrev pub key_number : Key → ℕ
key_number k = numbered k.mode (tonic_number k.tonic)

-- key_from_index
abbrev pub key_at : ℕ → Key
key_at n = record { tonic = get_or tonics (n % 12) C; mode = cond (ltb n 12) Major Minor }

-- `==` of two keys
abbrev pub same_key : Key → Key → Bool
same_key a b = eqb (key_number a) (key_number b)

-- are_relative_keys: the minor tonic is nine above the major one, of twelve
abbrev pub relatives : Mode → ℕ → Mode → ℕ → Bool
relatives Major m Minor n = eqb ((m + 9) % 12) n
relatives Minor n Major m = eqb ((m + 9) % 12) n
relatives Major m Major n = false
relatives Minor m Minor n = false

-- by mode and tonic of both keys
abbrev pub are_relative_keys : Key → Key → Bool
are_relative_keys a b = relatives a.mode (tonic_number a.tonic) b.mode (tonic_number b.tonic)

-- the numbers from 0 to 23 and the keys are the same thing, and `same_key` is equality
pub record NumbersAreKeys : Type 0 where
  pub below : (k : Key) → key_number k < 24
  pub key_back : (k : Key) → key_at (key_number k) ≡ k
  pub number_back : (n : ℕ) → n < 24 → key_number (key_at n) ≡ n
  pub equal : (a b : Key) → T (same_key a b) ↔ (a ≡ b)
