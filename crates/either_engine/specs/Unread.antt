-- That no answer depends on the engine. A definition and the statement.
use Rattle.std.specs.Prelude.{◌≡◌, ℕ, ◌≤◌}
use Rattle.calls.specs.Call.{Call}
use Rattle.calls.specs.Rows.{Rows}
use Rattle.rooms.specs.Lent.{Lent}
use Rattle.frames_call.specs.FramesOnly.{frames_only}
use Rattle.analysis.specs.Analyse.{analysed}

-- the same call by another engine
abbrev pub by_engine : ℕ → Call → Call
by_engine engine c =
    let s = c.settings in
    record {
      settings =
          record {
            rate = s.rate;
            frame_size = s.frame_size;
            hop_size = s.hop_size;
            minimum_midi_note = s.minimum_midi_note;
            maximum_midi_note = s.maximum_midi_note;
            local_window_seconds = s.local_window_seconds;
            local_hop_seconds = s.local_hop_seconds;
            alternate_coverage_threshold = s.alternate_coverage_threshold;
            segment_confidence_threshold = s.segment_confidence_threshold;
            minimum_segment_seconds = s.minimum_segment_seconds;
            engine = engine;
          };
      samples = c.samples;
      sheet = c.sheet;
    }

-- of every call that names one of the two engines, and whatever it is lent: the other one gives the same outcome, in the answer and in all that is left; the theorem that proofs/Unread.antt proves
pub record EngineUnread : Type 0 where
  pub analysis : (c : Call) (lent : Lent) (engine : ℕ) → c.settings.engine ≤ 1 → engine ≤ 1 → analysed (by_engine engine c) lent ≡ analysed c lent
  pub frames : (c : Call) (lent : Rows) (engine : ℕ) → c.settings.engine ≤ 1 → engine ≤ 1 → frames_only (by_engine engine c) lent ≡ frames_only c lent
