-- Whether an outcome is the one that is stored, from the record's answer on. Definitions only.
use Rattle.std.specs.Prelude.{◌≡◌, ℕ, ◌+◌, Bool, ◌&&◌, List, [], ◌∷◌, length, Float}
use Rattle.calls.specs.Rows.{Rows}
use Rattle.timeline.specs.Estimates.{EstimateRows}
use Rattle.timeline.specs.Segments.{SegmentRows}
use Rattle.rooms.specs.Lent.{Lent}
use Rattle.loud_frames.specs.Loud.{AnalyseOutcome}
use Rattle.answers.specs.declared.answer.AnalyseResult.{AnalyseResult}
use Rattle.stored_analyses.specs.Rows.{same_values, same_chroma, same_chromas, same_times, same_numbers}

-- as long as those that each call is lent
pub record Sized (l : Lent) : Type 0 where
  pub centres : length l.frames.centres ≡ 8
  pub values : length l.frames.values ≡ 8
  pub energies : length l.frames.energies ≡ 8
  pub work : length l.work ≡ 8
  pub middles : length l.estimates.centres ≡ 5
  pub numbers : length l.estimates.keys ≡ 5
  pub certainties : length l.estimates.confidences ≡ 5
  pub shapeless : length l.estimates.shapeless ≡ 5
  pub starts : length l.segments.starts ≡ 5
  pub ends : length l.segments.ends ≡ 5
  pub keys : length l.segments.keys ≡ 5
  pub confidences : length l.segments.confidences ≡ 5
  pub counts : length l.segments.counts ≡ 5

-- the answer's whole numbers, then its values
unfoldable pub same_answer : List ℕ → ℕ → AnalyseResult → Bool
same_answer bytes at r =
    same_numbers bytes at (r.refusal ∷ r.position ∷ r.key ∷ r.dsp_key ∷ r.alternate ∷ r.frames ∷ r.estimates ∷ r.segments ∷ r.shapeless ∷ [])
    && same_values bytes (at + 36) (r.coverage ∷ r.confidence ∷ [])
    && same_chroma bytes (at + 44) r.chroma

-- the frame rows, then the work numbers
unfoldable pub same_frames : List ℕ → ℕ → Rows → List Float → Bool
same_frames bytes at r work =
    same_times bytes at r.centres
    && same_chromas bytes (at + 64) r.values
    && same_values bytes (at + 448) r.energies
    && same_values bytes (at + 480) work

-- the estimates
unfoldable pub same_estimates : List ℕ → ℕ → EstimateRows → Bool
same_estimates bytes at r =
    same_times bytes at r.centres
    && same_numbers bytes (at + 40) r.keys
    && same_values bytes (at + 60) r.confidences
    && same_numbers bytes (at + 80) r.shapeless

-- the segments
unfoldable pub same_segments : List ℕ → ℕ → SegmentRows → Bool
same_segments bytes at r =
    same_times bytes at r.starts
    && same_times bytes (at + 40) r.ends
    && same_numbers bytes (at + 80) r.keys
    && same_values bytes (at + 100) r.confidences
    && same_numbers bytes (at + 120) r.counts

-- all that a call answers and leaves, behind the record's settings and samples
unfoldable pub same_outcome : List ℕ → ℕ → AnalyseOutcome → Bool
same_outcome bytes start o =
    same_answer bytes (start + 1580) o.answer
    && same_frames bytes (start + 1672) o.lent.frames o.lent.work
    && same_estimates bytes (start + 2184) o.lent.estimates
    && same_segments bytes (start + 2284) o.lent.segments
