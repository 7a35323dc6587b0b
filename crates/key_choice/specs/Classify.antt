-- The key that the scores tell and its confidence, written from the Rust's `disambiguate_relative_keys`, `key_confidence` and `classify_key_impl`. Definitions only.
use Rattle.std.specs.Prelude.{Bool, not, ◌&&◌, cond, List, get_or, Float}
use Rattle.std.specs.Float.{nan, binary32}
use Rattle.std.specs.Float.Ieee.{of_bits, sub, mul, div, lt}
use Rattle.laws.specs.Values.{magnitude_of, plus_zero, one, epsilon}
use Rattle.laws.specs.Pick.{clamped_to}
use Rattle.keys.specs.declared.Key.{Key}
use Rattle.keys.specs.Numbers.{tonic_number, are_relative_keys}
use Rattle.key_choice.specs.declared.places.Places.{Places}
use Rattle.key_choice.specs.declared.classify.Classified.{Classified}
use Rattle.scores.specs.Scores.{scores_of}
use Rattle.scores.specs.Shape.{shapeless_of}
use Rattle.key_choice.specs.Places.{places_of}

-- the chroma at a key's tonic
abbrev pub tonic_of : List Float → Key → Float
tonic_of chroma key = get_or chroma (tonic_number key.tonic) nan

-- the second tonic exceeds 1.2 times the first
unfoldable pub louder : List Float → Key → Key → Bool
louder chroma first second = lt (mul binary32 (tonic_of chroma first) (of_bits binary32 0x3f99_999a)) (tonic_of chroma second)

-- the key in first place, or its relative in second place where the margin is not above 0.05 and its tonic is louder
unfoldable pub chosen_key : List Float → Places → Key
chosen_key chroma p =
    cond (not (lt (of_bits binary32 0x3d4c_cccd) (sub binary32 p.first.score p.second.score)) && are_relative_keys p.first.key p.second.key && louder chroma p.first.key p.second.key)
    p.second.key p.first.key

-- the margin over the size of the best score, and 0 where that is at most epsilon
unfoldable pub confidence_of : Float → Float → Float
confidence_of best second = cond (lt epsilon (magnitude_of best)) (clamped_to plus_zero one (div binary32 (sub binary32 best second) (magnitude_of best))) plus_zero

-- the confidence in what is told of a chroma
abbrev pub certainty_of : Classified → Float
certainty_of c = confidence_of c.best c.second

-- the chosen key with the scores of both places, and whether the chroma has no shape
abbrev pub classified : List Float → List Float → Places → Classified
classified chroma scores p = record { key = chosen_key chroma p; best = p.first.score; second = p.second.score; scores = scores; shapeless = shapeless_of chroma }

-- classify_key: all that is told of a chroma
unfoldable pub classified_of : List Float → Classified
classified_of chroma = classified chroma (scores_of chroma) (places_of (scores_of chroma))
