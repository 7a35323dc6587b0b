-- The table sheet of 01: checks 6 and 7. Definitions and the statement.
use Rattle.std.specs.Prelude.{◌≡◌, ℕ, zero, suc, ◌+◌, ◌-◌, ◌<◌, ◌≤◌, Bool, true, ◌&&◌, List, [], ◌∷◌, ◌++◌, leb, eqb, length, get_or, Float}
use Rattle.std.specs.Float.{nan, binary32}
use Rattle.std.specs.Float.Ieee.{of_bits, lt, le}
use Rattle.std.specs.Float.Ieee.Scale.{finite}
use Rattle.laws.specs.Every.{every_entry}
use Rattle.laws.specs.Table.{all_of}
use Rattle.laws.specs.Values.{plus_zero, one, two}
use Rattle.calls.specs.Call.{Sheet}
use Rattle.calls.specs.declared.Settings.{Settings}
use Rattle.calls.specs.declared.SheetHead.{SheetHead}

-- check 6: the sheet's rate, notes and frame size are the call's
unfoldable pub matches_call : Settings → SheetHead → Bool
matches_call s h =
    all_of
    (eqb h.rate s.rate
    ∷ eqb h.minimum_midi_note s.minimum_midi_note
    ∷ eqb h.maximum_midi_note s.maximum_midi_note
    ∷ eqb h.frame_size s.frame_size
    ∷ [])

-- notes from the lowest to the highest, none where the lowest is above
abbrev pub notes_in : SheetHead → ℕ
notes_in h = h.maximum_midi_note + 1 - h.minimum_midi_note

-- from low to high; a NaN is not
abbrev pub from_to : Float → Float → Float → Bool
from_to low high x = le low x && le x high

-- -2
abbrev pub minus_two : Float
minus_two = of_bits binary32 0xc000_0000

-- finite and above 0
abbrev pub is_weight : Float → Bool
is_weight x = finite x && lt plus_zero x

-- from 4 to the rate
abbrev pub is_length : ℕ → ℕ → Bool
is_length rate n = leb 4 n && leb n rate

-- how long the windows of the first rows are together: where the next row's begins
unfoldable pub joined_length : List ℕ → ℕ → ℕ
joined_length lengths zero = 0
joined_length lengths (suc k) = joined_length lengths k + get_or lengths k 0

-- of the lists' lengths: the window's is the frame size; a kind's lists equally long; no more rows of either kind than notes in the range
abbrev pub length_rules : Sheet → List Bool
length_rules s =
    eqb (length s.window) s.head.frame_size
    ∷ eqb (length s.goertzel_coefficients) (length s.goertzel_weights)
    ∷ eqb (length s.constant_q_lengths) (length s.constant_q_coefficients)
    ∷ leb (length s.goertzel_coefficients) (notes_in s.head)
    ∷ leb (length s.constant_q_lengths) (notes_in s.head)
    ∷ []

-- of the lists' entries: each constant-Q length from 4 to the rate; joined windows exactly as long as the lengths' sum; coefficients from -2 to 2;
-- weights finite and above 0; window values from 0 to 1
abbrev pub entry_rules : Sheet → List Bool
entry_rules s =
    every_entry (is_length s.head.rate) 0 s.constant_q_lengths
    ∷ eqb (length s.constant_q_windows) (joined_length s.constant_q_lengths (length s.constant_q_lengths))
    ∷ every_entry (from_to minus_two two) nan s.goertzel_coefficients
    ∷ every_entry (from_to minus_two two) nan s.constant_q_coefficients
    ∷ every_entry is_weight nan s.goertzel_weights
    ∷ every_entry (from_to plus_zero one) nan s.window
    ∷ every_entry (from_to plus_zero one) nan s.constant_q_windows
    ∷ []

-- the lists are as long as the head and each other allow
unfoldable pub lists_fit : Sheet → Bool
lists_fit s = all_of (length_rules s)

-- check 7: every rule of the sheet holds
unfoldable pub well_formed : Sheet → Bool
well_formed s = all_of (length_rules s ++ entry_rules s)

-- what the filters need of a sheet
pub record Formed (s : Sheet) : Type 0 where
  pub windowed : length s.window ≡ s.head.frame_size
  pub goertzel_alike : length s.goertzel_coefficients ≡ length s.goertzel_weights
  pub constant_q_alike : length s.constant_q_lengths ≡ length s.constant_q_coefficients
  pub goertzel_few : length s.goertzel_coefficients ≤ 256
  pub constant_q_few : length s.constant_q_lengths ≤ 256
  pub joined : length s.constant_q_windows ≡ joined_length s.constant_q_lengths (length s.constant_q_lengths)

-- a well-formed sheet has it: the theorem that proofs/Formed.antt proves
abbrev pub WellFormedSuffices : Type 0
WellFormedSuffices = (s : Sheet) → s.head.maximum_midi_note < 256 → well_formed s ≡ true → Formed s
