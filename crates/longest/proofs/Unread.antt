-- Turn by turn, the longest of the stretches is the stretch of the longest segment.
use mathlib.Core.Path.{◌≡◌, sym}
use mathlib.Core.List.{List, map}
use Prim.Native.Nat.{ℕ}
use lib.ListN.{length, length-map, get_or-map}
use Rattle.laws.specs.Order.{total_order}
use Rattle.laws.proofs.Cases.{through-test}
use Rattle.laws.proofs.Turns.{turns-part}
use Rattle.timeline.specs.Segments.{emptied, seconds, segment_at}
use Rattle.timeline.specs.inside.Segments.{as_stretch}
use Rattle.timeline.specs.declared.segment.Segment.{Segment}
use Rattle.longest.specs.Longest.{longer, longest_turn, longest_of, reported_of}
use Rattle.longest.specs.Unread.{ReportedUnread}

module _ (segments : List Segment) where
  stretch-at : (i : ℕ) → segment_at (map as_stretch segments) i ≡ as_stretch (segment_at segments i)
  stretch-at i = get_or-map as_stretch segments i emptied

  stretch-turn : (i : ℕ) (best : Segment) → as_stretch (longest_turn segments i best) ≡ longest_turn (map as_stretch segments) i (as_stretch best)
  unfolding longer seconds
  stretch-turn i best =
      let s = segment_at segments i in
      rw (stretch-at i) (through-test as_stretch (total_order (seconds best) (seconds s)) s best)

  longest-unread : longest_of (map as_stretch segments) ≡ as_stretch (longest_of segments)
  unfolding longest_of
  longest-unread = rw (length-map segments as_stretch, stretch-at 0) (sym (turns-part as_stretch (longest_turn segments) _ (length segments) 0 (λ i best h. stretch-turn i best) (segment_at segments 0)))

pub reported-unread : ReportedUnread
unfolding reported_of
reported-unread classified segments = rw (length-map segments as_stretch, longest-unread segments)
