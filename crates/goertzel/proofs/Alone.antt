-- The definition reads the window and the Goertzel rows of a sheet, and nothing else.
use mathlib.Core.Path.{◌≡◌, refl}
use mathlib.Core.List.{List}
use Prim.Native.Nat.{ℕ}
use lib.Ieee.{Float}
use Rattle.calls.specs.Call.{Sheet}
use Rattle.goertzel.specs.Goertzel.{goertzel_of}
use Rattle.goertzel.specs.inside.Rows.{goertzel_rows}

-- a sheet's chroma is that of its rows
pub goertzel-by-rows : (s : Sheet) (samples : List Float) (start : ℕ) → goertzel_of (goertzel_rows s.head.minimum_midi_note s.window s.goertzel_coefficients s.goertzel_weights) samples start ≡ goertzel_of s samples start
unfolding goertzel_of
goertzel-by-rows s samples start = refl
