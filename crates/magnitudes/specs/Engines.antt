-- That both engines give the same magnitudes. The statement.
use Rattle.std.specs.Prelude.{◌≡◌, List, ℕ, ◌≤◌, length, Float}
use Rattle.magnitudes.specs.SideBySide.{side_by_side}
use Rattle.magnitudes.specs.InFours.{in_fours}

-- of up to 256 rows, with any window, coefficients and samples, both engines leave the same in a room that suffices: the theorem that proofs/Agreement.antt proves
abbrev pub EnginesAgree : Type 0
EnginesAgree =
    (window coefficients samples : List Float) (start : ℕ) (room : List Float) →
    length coefficients ≤ 256 →
    length coefficients ≤ length room →
    side_by_side window coefficients samples start room ≡ in_fours window coefficients samples start room
