-- From what a function's callees and tests say to its definition, on plain values.
use mathlib.Core.Path.{◌≡◌, sym, ap, ◌∙◌}
use mathlib.Core.Bool.{Bool, true, false, not, ◌&&◌, cond}
use mathlib.Core.List.{List}
use lib.Ieee.{Float, binary32, of_bits, sub, div, lt}
use Rattle.laws.specs.Values.{magnitude_of, plus_zero, one, epsilon}
use Rattle.laws.specs.Pick.{clamped_to}
use Rattle.keys.specs.Numbers.{are_relative_keys}
use Rattle.key_choice.specs.declared.places.Place.{Place}
use Rattle.key_choice.specs.declared.places.Places.{Places}
use Rattle.key_choice.specs.Places.{ranked, placed}
use Rattle.key_choice.specs.Classify.{louder, chosen_key, confidence_of}

-- the places, by the test that a score passes
module _ (p : Places) (candidate : Place) where
  pub takes_first : lt p.first.score candidate.score ≡ true → ranked candidate p.first ≡ placed p candidate
  unfolding placed
  takes_first t = rw t

  pub takes-second : lt p.first.score candidate.score ≡ false → lt p.second.score candidate.score ≡ true → ranked p.first candidate ≡ placed p candidate
  unfolding placed
  takes-second s t = rw (s, t)

  pub takes_none : lt p.first.score candidate.score ≡ false → lt p.second.score candidate.score ≡ false → p ≡ placed p candidate
  unfolding placed
  takes_none s t = rw (s, t)

-- the key chosen, from the three tests
pub chosen : (chroma : List Float) (p : Places) {relative loud : Bool} (taken : Bool)
    → relative ≡ are_relative_keys p.first.key p.second.key → loud ≡ louder chroma p.first.key p.second.key
    → (not (lt (of_bits binary32 0x3d4c_cccd) (sub binary32 p.first.score p.second.score)) && relative && loud) ≡ taken
    → cond taken p.second.key p.first.key ≡ chosen_key chroma p
unfolding chosen_key
chosen chroma p taken r l t = rw (← t, r, l)

-- a confidence, from the size of the best score
module _ (best second : Float) {size : Float} (e : size ≡ magnitude_of best) where
  pub clear-margin : {margin : Float} → lt epsilon size ≡ true → margin ≡ clamped_to plus_zero one (div binary32 (sub binary32 best second) size) → margin ≡ confidence_of best second
  unfolding confidence_of
  clear-margin t m = m ∙ rw (sym (ap (lt epsilon) e) ∙ t, e)

  pub no-margin : lt epsilon size ≡ false → plus_zero ≡ confidence_of best second
  unfolding confidence_of
  no-margin t = rw (sym (ap (lt epsilon) e) ∙ t)
