-- The numbers of the refusals. Definitions only.
use Rattle.std.specs.Prelude.{ℕ}
use Rattle.checks.specs.declared.refusal.Refusal.{Refusal}
use Rattle.checks.specs.declared.refusal.Refusal.TheVariants.{RateTooHigh, FrameOrHopTooLarge, SettingNotFinite, EngineUnknown, TrackTooLong, HopTooShort, SheetOfAnotherCall, SheetNotWellFormed, RoomTooSmall}

-- by document 01's rows, and number 13 of document 02
abbrev pub number_of : Refusal → ℕ
number_of RateTooHigh = 1
number_of FrameOrHopTooLarge = 2
number_of SettingNotFinite = 3
number_of EngineUnknown = 13
number_of TrackTooLong = 4
number_of HopTooShort = 5
number_of SheetOfAnotherCall = 6
number_of SheetNotWellFormed = 7
number_of RoomTooSmall = 8
