-- Splits and borders of two windows by those columns alone that tell them. No promise names it. Definitions only.
use Rattle.std.specs.Prelude.{ℕ, Bool, List, get_or, Float}
use Rattle.std.specs.Float.{nan}
use Rattle.keys.specs.Numbers.{key_at}
use Rattle.timeline.specs.inside.Estimates.{estimate_read}
use Rattle.timeline.specs.declared.estimate.Estimate.{Estimate}
use Rattle.splits.specs.Splits.{splits, border_of}

-- an estimate of which key and confidence are known, and one of which the centre is
abbrev pub key_read : ℕ → Float → Estimate
key_read number confidence = estimate_read nan (key_at number) confidence

abbrev pub centre_read : Float → Estimate
centre_read centre = estimate_read centre (key_at 0) nan

-- window `next` starts a group, against window `before`
unfoldable pub splits_in : Float → List ℕ → List Float → ℕ → ℕ → Bool
splits_in threshold numbers certainties before next = splits threshold (key_read (get_or numbers before 0) nan) (key_read (get_or numbers next 0) (get_or certainties next nan))

-- the border between the two
unfoldable pub border_in : List Float → ℕ → ℕ → Float
border_in middles before next = border_of (centre_read (get_or middles before nan)) (centre_read (get_or middles next nan))
