-- A call's records from their parts. No promise names it. Definitions only.
use Rattle.std.specs.Prelude.{ℕ, List, Float}
use Rattle.calls.specs.Call.{Sheet, Call}
use Rattle.calls.specs.Rows.{Rows}
use Rattle.calls.specs.declared.Settings.{Settings}
use Rattle.calls.specs.declared.SheetHead.{SheetHead}

-- a sheet, from its head and its lists
abbrev pub sheet_of : SheetHead → List Float → List Float → List Float → List ℕ → List Float → List Float → Sheet
sheet_of head window coefficients weights lengths q_coefficients q_windows =
    record {
      head = head;
      window = window;
      goertzel_coefficients = coefficients;
      goertzel_weights = weights;
      constant_q_lengths = lengths;
      constant_q_coefficients = q_coefficients;
      constant_q_windows = q_windows;
    }

-- a call, from its parts
abbrev pub call_of : Settings → SheetHead → List Float → List Float → List Float → List Float → List ℕ → List Float → List Float → Call
call_of settings head samples window coefficients weights lengths q_coefficients q_windows =
    record { settings = settings; samples = samples; sheet = sheet_of head window coefficients weights lengths q_coefficients q_windows }

-- frame rows, from their slices
abbrev pub rows : List Float → List (List Float) → List Float → Rows
rows centres values energies = record { centres = centres; values = values; energies = energies }
