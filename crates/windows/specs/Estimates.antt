-- A window's estimate, written from the Rust's `estimate_segments`. Definitions only.
use Rattle.std.specs.Prelude.{List, Float}
use Rattle.whitening.specs.Levels.{normalized_of}
use Rattle.key_choice.specs.Classify.{certainty_of, classified_of}
use Rattle.timeline.specs.declared.estimate.Estimate.{Estimate}

-- a window's estimate: the summed chroma is normalised and classified
unfoldable pub estimate_of : Float → List Float → Estimate
estimate_of centre chroma = let c = classified_of (normalized_of chroma) in record { centre = centre; key = c.key; confidence = certainty_of c; shapeless = c.shapeless }
