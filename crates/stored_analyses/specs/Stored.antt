-- What a stored record asks, byte by byte: its settings and samples, and the sheet at the front. Definitions only.
use Rattle.std.specs.Prelude.{ℕ, ◌+◌, ◌*◌, ◌%◌, List, Float}
use Rattle.laws.specs.Front.{list}
use Rattle.calls.specs.Call.{Sheet, Call}
use Rattle.calls.specs.inside.Parts.{sheet_of}
use Rattle.calls.specs.declared.Settings.{Settings}
use Rattle.calls.specs.declared.SheetHead.{SheetHead}
use Rattle.replayed.specs.Records.{word_at, value_at}

-- so many values, by their patterns from a byte on
unfoldable pub values_at : List ℕ → ℕ → ℕ → List Float
values_at bytes at count = list (λ (i : ℕ). value_at bytes (at + 4 * i)) count

-- so many numbers
unfoldable pub numbers_at : List ℕ → ℕ → ℕ → List ℕ
numbers_at bytes at count = list (λ (i : ℕ). word_at bytes (at + 4 * i)) count

-- the settings, in the order of their fields
unfoldable pub settings_at : List ℕ → ℕ → Settings
settings_at bytes at =
    record {
      rate = word_at bytes at;
      frame_size = word_at bytes (at + 4);
      hop_size = word_at bytes (at + 8);
      minimum_midi_note = word_at bytes (at + 12) % 256;
      maximum_midi_note = word_at bytes (at + 16) % 256;
      local_window_seconds = value_at bytes (at + 20);
      local_hop_seconds = value_at bytes (at + 24);
      alternate_coverage_threshold = value_at bytes (at + 28);
      segment_confidence_threshold = value_at bytes (at + 32);
      minimum_segment_seconds = value_at bytes (at + 36);
      engine = word_at bytes (at + 40);
    }

-- a sheet's head, in the order of its fields
unfoldable pub head_at : List ℕ → ℕ → SheetHead
head_at bytes at =
    record {
      rate = word_at bytes at;
      minimum_midi_note = word_at bytes (at + 4) % 256;
      maximum_midi_note = word_at bytes (at + 8) % 256;
      frame_size = word_at bytes (at + 12);
    }

-- the sheet at the front: 14 rows of either kind
abbrev pub sheet_in : List ℕ → Sheet
sheet_in bytes =
    sheet_of (head_at bytes 0) (values_at bytes 16 32) (values_at bytes 144 14) (values_at bytes 200 14) (numbers_at bytes 256 14) (values_at bytes 312 14) (values_at bytes 368 820)

-- what the record that starts at a byte asks
abbrev pub call_at : List ℕ → ℕ → Call
call_at bytes start = record { settings = settings_at bytes start; samples = values_at bytes (start + 44) 384; sheet = sheet_in bytes }
