-- The check table: document 01's rows, and number 13 of document 02. Definitions only.
use Rattle.std.specs.Prelude.{ℕ, ◌*◌, Bool, not, List, [], ◌∷◌, length, ltb, eqb, Option, None, Some, Result, Ok, Err}
use Rattle.std.specs.Float.Ieee.{lt}
use Rattle.std.specs.Float.Ieee.Scale.{finite}
use Rattle.laws.specs.Table.{Check, ◌gives◌, first_of, any_of, all_of}
use Rattle.laws.specs.Values.{plus_zero}
use Rattle.calls.specs.Call.{Call, longest_track, positions_of}
use Rattle.calls.specs.declared.Settings.{Settings}
use Rattle.sheets.specs.Sheet.{matches_call, well_formed}
use Rattle.checks.specs.declared.refusal.Refusal.{Refusal}
use Rattle.checks.specs.declared.refusal.Refusal.TheVariants.{RateTooHigh, FrameOrHopTooLarge, SettingNotFinite, EngineUnknown, TrackTooLong, HopTooShort, SheetOfAnotherCall, SheetNotWellFormed, RoomTooSmall}

-- the five f32 settings are finite
unfoldable pub all_finite : Settings → Bool
all_finite s =
    all_of
    (finite s.local_window_seconds
    ∷ finite s.local_hop_seconds
    ∷ finite s.alternate_coverage_threshold
    ∷ finite s.segment_confidence_threshold
    ∷ finite s.minimum_segment_seconds
    ∷ [])

-- the Rust's reasons for an empty answer, with so many samples
abbrev pub reasons : Settings → ℕ → List Bool
reasons s count =
    eqb s.rate 0
    ∷ ltb s.frame_size 32
    ∷ eqb s.hop_size 0
    ∷ ltb count s.frame_size
    ∷ ltb s.maximum_midi_note s.minimum_midi_note
    ∷ not (lt plus_zero s.local_window_seconds)
    ∷ not (lt plus_zero s.local_hop_seconds)
    ∷ []

-- one of them holds
unfoldable pub nothing_to_do : Settings → ℕ → Bool
nothing_to_do s count = any_of (reasons s count)

-- frame size or hop too large
abbrev pub too_large : Settings → List Bool
too_large s = ltb 65_536 s.frame_size ∷ ltb 1_048_576 s.hop_size ∷ []

-- what the table says of a call: refused, the Rust's empty answer, or as many frame positions to go through
abbrev pub Checked : Type 0
Checked = Result (Option ℕ) Refusal

-- the table from the top; whether rows 5 and 8 apply is the call's own to say
abbrev pub table : Call → Bool → Bool → List (Check Checked)
table c hasty crowded =
    let s = c.settings in
    let count = length c.samples in
    (ltb 192_000 s.rate gives Err RateTooHigh)
    ∷ (any_of (too_large s) gives Err FrameOrHopTooLarge)
    ∷ (not (all_finite s) gives Err SettingNotFinite)
    ∷ (ltb 1 s.engine gives Err EngineUnknown)
    ∷ (nothing_to_do s count gives Ok None)
    ∷ (ltb (longest_track * s.rate) count gives Err TrackTooLong)
    ∷ (hasty gives Err HopTooShort)
    ∷ (not (matches_call s c.sheet.head) gives Err SheetOfAnotherCall)
    ∷ (not (well_formed c.sheet) gives Err SheetNotWellFormed)
    ∷ (crowded gives Err RoomTooSmall)
    ∷ []

-- the first row that applies decides; a call that none applies to goes through its frame positions
unfoldable pub checked : Call → Bool → Bool → Checked
checked c hasty crowded = first_of (table c hasty crowded) (Ok (Some (positions_of c.settings (length c.samples))))
