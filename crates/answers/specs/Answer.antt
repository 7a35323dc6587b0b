-- What an analysis answers, as numbers. Definitions only.
use Rattle.std.specs.Prelude.{ℕ, List, Bool, false, replicate, Float, Option}
use Rattle.laws.specs.Values.{plus_zero}
use Rattle.numbers.specs.Flags.{one_if}
use Rattle.keys.specs.declared.Key.{Key}
use Rattle.keys.specs.Numbers.{key_number}
use Rattle.alternates.specs.Alternate.{alternate_number, alternate_coverage}
use Rattle.alternates.specs.declared.alternate.Alternate.{Alternate}
use Rattle.answers.specs.declared.answer.AnalyseResult.{AnalyseResult}
use Rattle.answers.specs.declared.answer.Counts.{Counts}
use Rattle.verdicts.specs.declared.verdict.Verdict.{Verdict}

-- how many rows of each kind are written
abbrev pub counts : ℕ → ℕ → ℕ → Counts
counts frames estimates segments = record { frames = frames; estimates = estimates; segments = segments }

-- an answer from its numbers: 01's number, or 0; the position that 9 names; the key, which without a reranker is the DSP key too; the alternate and its coverage; the confidence, and 1 where the chroma has no shape
abbrev pub answer_of : ℕ → ℕ → ℕ → ℕ → Float → Float → Bool → Counts → List Float → AnalyseResult
answer_of refusal position key alternate coverage confidence shapeless c chroma =
    record {
      refusal = refusal;
      position = position;
      key = key;
      dsp_key = key;
      alternate = alternate;
      coverage = coverage;
      confidence = confidence;
      shapeless = one_if shapeless;
      frames = c.frames;
      estimates = c.estimates;
      segments = c.segments;
      chroma = chroma;
    }

-- without a key, by a refusal or 0 for the empty analysis: no rows but frames are written
unfoldable pub keyless : ℕ → ℕ → ℕ → AnalyseResult
keyless refusal position frames = answer_of refusal position 24 24 plus_zero plus_zero false (counts frames 0 0) (replicate 12 plus_zero)

-- with the reported key, and the alternate that is named or not
unfoldable pub with_alternate : Verdict → Key → Counts → Option Alternate → AnalyseResult
with_alternate v reported c other = answer_of 0 0 (key_number reported) (alternate_number other) (alternate_coverage other) v.confidence v.shapeless c v.chroma
