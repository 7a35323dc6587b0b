-- The centres of the loud frames do not fall, so a run over windows of them takes the short way. The statement only.
use Rattle.std.specs.Prelude.{ℕ, ◌≡◌, Bool, map, T, length, Some, Ok}
use Rattle.std.specs.Float.{nan}
use Rattle.std.specs.Float.Ieee.{le}
use Rattle.laws.specs.Every.{every_pair}
use Rattle.calls.specs.Call.{Call}
use Rattle.checks.specs.Checks.{checked}
use Rattle.one_frame.specs.declared.frame.Row.{Row}
use Rattle.frames.specs.Run.{loud_before}

-- of a call that passes the checks: among the loud frames before any position no centre is below the one before it
abbrev pub LoudCentresRise : Type 0
LoudCentresRise =
    (c : Call) (hasty crowded : Bool) (positions k : ℕ) →
    checked c hasty crowded ≡ Ok (Some positions) →
    T (every_pair le nan (map (λ (r : Row). r.centre) (loud_before c k)) (length (loud_before c k)))
