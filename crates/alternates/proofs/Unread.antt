-- Sums of seconds and the keys met read lengths and keys, which a segment and its stretch have alike.
use mathlib.Core.Path.{◌≡◌, ap, ◌∙◌}
use mathlib.Core.List.{List, map, map-map}
use Prim.Native.Nat.{ℕ}
use lib.ListN.{length-map}
use lib.Ieee.{Float, binary64, add}
use Rattle.laws.specs.Lists.{passing, fold}
use Rattle.laws.specs.Order.{total_order}
use Rattle.laws.specs.Values.{plus_zero, minus_zero}
use Rattle.laws.specs.Leader.{without, keys_met, last_largest}
use Rattle.laws.proofs.Lists.{passing-map}
use Rattle.timeline.specs.Segments.{seconds}
use Rattle.timeline.specs.inside.Segments.{as_stretch}
use Rattle.timeline.specs.declared.segment.Segment.{Segment}
use Rattle.alternates.specs.Alternate.{held_seconds, lasting, lasts_in, summed_from, total_of, seconds_of, lasting_keys, rival_of, alternate_of}
use Rattle.alternates.specs.Unread.{AlternateUnread}

summed-unread : (sum : Float) (segments : List Segment) → summed_from sum (map as_stretch segments) ≡ summed_from sum segments
unfolding held_seconds seconds
summed-unread sum segments = ap (fold (add binary64) sum) (map-map held_seconds as_stretch segments)

module _ (segments : List Segment) where
  total-unread : total_of (map as_stretch segments) ≡ total_of segments
  unfolding total_of
  total-unread = summed-unread minus_zero segments

  seconds-unread : (key : ℕ) → seconds_of (map as_stretch segments) key ≡ seconds_of segments key
  unfolding seconds_of lasts_in lasting held_seconds seconds
  seconds-unread key = ap (summed_from plus_zero) (passing-map (lasts_in key) as_stretch segments) ∙ summed-unread plus_zero (passing (lasts_in key) segments)

  keys-unread : lasting_keys (map as_stretch segments) ≡ lasting_keys segments
  unfolding lasting_keys lasting held_seconds seconds
  keys-unread = ap (map _) (passing-map lasting as_stretch segments) ∙ map-map _ as_stretch (passing lasting segments)

  rival-unread : (reported : ℕ) → rival_of reported (map as_stretch segments) ≡ rival_of reported segments
  unfolding rival_of
  rival-unread reported = λ k. last_largest total_order (λ (key : ℕ). seconds-unread key k) (keys_met (without reported (keys-unread k)))

pub alternate-unread : AlternateUnread
unfolding alternate_of
alternate-unread reported threshold segments = rw (length-map segments as_stretch, total-unread segments, rival-unread segments reported)
