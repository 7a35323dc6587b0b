-- What the medians of all loud frames tell, written from the Rust's `analyze`. Definitions only.
use Rattle.std.specs.Prelude.{ℕ, Bool, List, Float}
use Rattle.std.specs.Float.Ieee.{le}
use Rattle.laws.specs.Values.{epsilon}
use Rattle.numbers.specs.Sum.{sum_of}
use Rattle.whitening.specs.Levels.{normalized_of}
use Rattle.chroma.specs.Shift.{retuned_of}
use Rattle.chroma.specs.Tuning.{tuning_of}
use Rattle.key_choice.specs.Classify.{certainty_of, classified_of}
use Rattle.verdicts.specs.declared.verdict.Verdict.{Verdict}

-- the medians sum to at most 2^-23
unfoldable pub faint : List Float → Bool
faint medians = le (sum_of 12 medians) epsilon

-- the track's chroma: the medians shifted by the tuning of the first frames, and normalised
unfoldable pub tuned_of : List Float → List (List Float) → ℕ → List Float
tuned_of medians values count = normalized_of (retuned_of medians (tuning_of values count))

-- of the track's chroma: the key that its scores tell, the confidence in it, and whether it has no shape
unfoldable pub verdict_of : List Float → List (List Float) → ℕ → Verdict
verdict_of medians values count =
    let chroma = tuned_of medians values count in
    let c = classified_of chroma in
    record { key = c.key; confidence = certainty_of c; shapeless = c.shapeless; chroma = chroma }
