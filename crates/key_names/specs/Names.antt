-- Names of keys, as lists of ASCII codes, written from the Rust's Display. Definitions only.
use Rattle.std.specs.Prelude.{ℕ, List, [], ◌∷◌, ◌++◌, take}
use Rattle.keys.specs.declared.Tonic.{Tonic}
use Rattle.keys.specs.declared.Tonic.TheVariants.{C, CSharp, D, DSharp, E, F, FSharp, G, GSharp, A, ASharp, B}
use Rattle.keys.specs.declared.Mode.{Mode}
use Rattle.keys.specs.declared.Mode.TheVariants.{Major, Minor}
use Rattle.keys.specs.declared.Key.{Key}

-- the letters A to G are 65 to 71, the sharp sign is 35
abbrev pub tonic_name : Tonic → List ℕ
tonic_name C = 67 ∷ []
tonic_name CSharp = 67 ∷ 35 ∷ []
tonic_name D = 68 ∷ []
tonic_name DSharp = 68 ∷ 35 ∷ []
tonic_name E = 69 ∷ []
tonic_name F = 70 ∷ []
tonic_name FSharp = 70 ∷ 35 ∷ []
tonic_name G = 71 ∷ []
tonic_name GSharp = 71 ∷ 35 ∷ []
tonic_name A = 65 ∷ []
tonic_name ASharp = 65 ∷ 35 ∷ []
tonic_name B = 66 ∷ []

-- "major" and "minor"
abbrev pub mode_name : Mode → List ℕ
mode_name Major = 109 ∷ 97 ∷ 106 ∷ 111 ∷ 114 ∷ []
mode_name Minor = 109 ∷ 105 ∷ 110 ∷ 111 ∷ 114 ∷ []

-- the tonic, a blank and the mode: "C# minor"
unfoldable pub name_of : Key → List ℕ
name_of k = tonic_name k.tonic ++ (32 ∷ mode_name k.mode)

-- a name with a blank behind it, cut to two
abbrev pub padded : List ℕ → List ℕ
padded name = take 2 (name ++ (32 ∷ []))
