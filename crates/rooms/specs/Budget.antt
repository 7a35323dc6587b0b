-- The window loop on a whole call: it is the Rust's, pass for pass, and the budget is never the reason to stop. The statement.
use Rattle.std.specs.Prelude.{◌≡◌, Bool, true, false, ℕ, length, Some, Ok}
use Rattle.calls.specs.Call.{Call, Typed}
use Rattle.checks.specs.Checks.{checked}
use Rattle.windows.specs.Span.{span_of, brief, rows_asked}
use Rattle.windows.specs.Budget.{Passes}
use Rattle.windows.specs.declared.span.Span.{Span}
use Rattle.rooms.specs.Room.{hasty}

-- 01's W of a span: the number of the Rust's passes, or 1 where the duration is below window and hop
pub record AskedRightly (s : Span) : Type 0 where
  pub long : brief s ≡ false → Passes s (rows_asked s)
  pub short : brief s ≡ true → rows_asked s ≡ 1

-- so it is in every call that passes the checks, whatever room it has
abbrev pub LoopEndsItself : Type 0
LoopEndsItself =
    (c : Call) (crowded : Bool) (positions : ℕ) → Typed c.settings → checked c (hasty c.settings) crowded ≡ Ok (Some positions) →
    AskedRightly (span_of c.settings (length c.samples))
