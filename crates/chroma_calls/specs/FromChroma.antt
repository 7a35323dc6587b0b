-- What `ulyptesh_scores` and `ulyptesh_key` promise, each as one definition of what the call is given. Definitions only.
use Rattle.std.specs.Prelude.{List, [], ◌∷◌, not, eqb, ltb, length, Float}
use Rattle.laws.specs.Front.{front}
use Rattle.laws.specs.Table.{◌gives◌, first_of, any_of}
use Rattle.laws.specs.Values.{plus_zero}
use Rattle.numbers.specs.Flags.{one_if}
use Rattle.keys.specs.Numbers.{key_number}
use Rattle.key_choice.specs.declared.classify.Classified.{Classified}
use Rattle.scores.specs.Scores.{scores_of}
use Rattle.scores.specs.Shape.{shapeless_of}
use Rattle.key_choice.specs.Classify.{certainty_of, classified_of}
use Rattle.chroma_calls.specs.declared.ScoresResult.{ScoresResult}
use Rattle.chroma_calls.specs.declared.KeyResult.{KeyResult}

-- ---- the 24 scores
-- what the call answers, and what it leaves in the lent places
pub record ScoresOutcome : Type 0 where
  pub answer : ScoresResult
  pub places : List Float

-- both together
abbrev pub scores_outcome : ScoresResult → List Float → ScoresOutcome
scores_outcome answer places = record { answer = answer; places = places }

-- 18 for a chroma not of 12 numbers or fewer than 24 places leaves the places as they are; else the scores stand at their front, and the answer says whether the chroma has no shape
abbrev pub scores_call : List Float → List Float → ScoresOutcome
scores_call chroma places =
    first_of
    ((any_of (not (eqb (length chroma) 12) ∷ ltb (length places) 24 ∷ []) gives scores_outcome (record { refusal = 18; shapeless = 0 }) places)
    ∷ [])
    (scores_outcome (record { refusal = 0; shapeless = one_if (shapeless_of chroma) }) (front (scores_of chroma) places))

-- ---- the key
-- the answer for a classified chroma
unfoldable pub judged : Classified → KeyResult
judged c = record { refusal = 0; key = key_number c.key; best = c.best; second = c.second; confidence = certainty_of c; shapeless = one_if c.shapeless }

-- 18 for a chroma not of 12 numbers, with no key, which is 24, and zeros
abbrev pub no_chroma : KeyResult
no_chroma = record { refusal = 18; key = 24; best = plus_zero; second = plus_zero; confidence = plus_zero; shapeless = 0 }

-- the refusal, or what is told of the chroma
abbrev pub key_call : List Float → KeyResult
key_call chroma = first_of ((not (eqb (length chroma) 12) gives no_chroma) ∷ []) (judged (classified_of chroma))
