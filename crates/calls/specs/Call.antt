-- What a call is given to read. Definitions only.
use Rattle.std.specs.Prelude.{ℕ, ◌+◌, ◌-◌, ◌/◌, List, T, pos, Float}
use Rattle.std.specs.Float.{binary32, binary64}
use Rattle.std.specs.Float.Ieee.{fits, of_int, div}
use Rattle.calls.specs.declared.Settings.{Settings}
use Rattle.calls.specs.declared.SheetHead.{SheetHead}

-- a table sheet: its head, the frame window, the Goertzel rows and the constant-Q rows, whose windows are joined end to end
pub record Sheet : Type 0 where
  pub head : SheetHead
  pub window : List Float
  pub goertzel_coefficients : List Float
  pub goertzel_weights : List Float
  pub constant_q_lengths : List ℕ
  pub constant_q_coefficients : List Float
  pub constant_q_windows : List Float

-- all that a call reads
pub record Call : Type 0 where
  pub settings : Settings
  pub samples : List Float
  pub sheet : Sheet

-- a sheet as a contract has it: what the references refer to
abbrev pub lent_sheet : SheetHead → List Float → List Float → List Float → List ℕ → List Float → List Float → Sheet
lent_sheet head window coefficients weights lengths q_coefficients q_windows =
    record { head = head; window = window; goertzel_coefficients = coefficients; goertzel_weights = weights; constant_q_lengths = lengths; constant_q_coefficients = q_coefficients; constant_q_windows = q_windows }

-- a call as a contract has it
abbrev pub given : Settings → SheetHead → List Float → List Float → List Float → List Float → List ℕ → List Float → List Float → Call
given settings head samples window coefficients weights lengths q_coefficients q_windows =
    record { settings = settings; samples = samples; sheet = lent_sheet head window coefficients weights lengths q_coefficients q_windows }

-- a sample's time in seconds
unfoldable pub seconds_at : Settings → ℕ → Float
seconds_at s sample = div binary64 (of_int binary64 (pos sample)) (of_int binary64 (pos s.rate))

-- the longest track in seconds: a day
abbrev pub longest_track : ℕ
longest_track = 86_400

-- how many frames a track of so many samples has: the last one starts at or before count - frame size
abbrev pub positions_of : Settings → ℕ → ℕ
positions_of s count = (count - s.frame_size) / s.hop_size + 1

-- what the type of every caller's settings says and theorems ask for: the window's length is an f32
pub record Typed (s : Settings) : Type 0 where
  pub window : T (fits binary32 s.local_window_seconds)
