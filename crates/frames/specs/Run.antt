-- The loud frames over all frame positions, written from the Rust's `frame_chroma_sequence`; position k is the frame that starts at sample k * hop. Definitions only.
use Rattle.std.specs.Prelude.{ℕ, zero, suc, ◌*◌, Bool, cond, not, ◌&&◌, List, [], ◌∷◌, ◌++◌, map, Float}
use Rattle.laws.specs.Front.{front}
use Rattle.laws.specs.First.{first}
use Rattle.calls.specs.Call.{Call}
use Rattle.calls.specs.Rows.{Rows}
use Rattle.one_frame.specs.Frame.{frame_energy, loud, row_of, whole}
use Rattle.one_frame.specs.declared.frame.Row.{Row}

-- the energy at position k
unfoldable pub energy_at : Call → ℕ → Float
energy_at c k = frame_energy c.samples (k * c.settings.hop_size) c.settings.frame_size

-- the row at position k
unfoldable pub frame_row : Call → ℕ → Row
frame_row c k = row_of c (k * c.settings.hop_size) (energy_at c k)

-- loud, with a row that is not finite: the run stops there
unfoldable pub not_finite_at : Call → ℕ → Bool
not_finite_at c k = loud (energy_at c k) && not (whole (frame_row c k))

-- the rows of the loud frames before position k
unfoldable pub loud_before : Call → ℕ → List Row
loud_before c zero = []
loud_before c (suc k) = cond (loud (energy_at c k)) (loud_before c k ++ (frame_row c k ∷ [])) (loud_before c k)

-- of so many positions the first that stops the run, or their number
unfoldable pub stop_at : Call → ℕ → ℕ
stop_at c positions = first (not_finite_at c) positions 0

-- the lent rows once those found stand in the first places
abbrev pub holding_frames : List Row → Rows → Rows
holding_frames found before =
    record {
      centres = front (map (λ (r : Row). r.centre) found) before.centres;
      values = front (map (λ (r : Row). r.values) found) before.values;
      energies = front (map (λ (r : Row). r.energy) found) before.energies;
    }
