-- A join keeps the chain in which each segment starts where the one before it ends, so shortening does.
use mathlib.Core.Path.{◌≡◌}
use Prim.Native.Nat.{ℕ, zero, suc, ◌<◌}
use native.Mathlib.Nat.{not-suc-le-zero, le_of_suc-le-suc, lt_irrefl}
use mathlib.Core.List.{List, [], ◌∷◌}
use lib.ListN.{length}
use lib.Ieee.{Float, binary64}
use Rattle.laws.specs.Values.{plus_zero, Held}
use Rattle.laws.proofs.Order.{le_trans}
use Rattle.laws.proofs.Pick.{max-left, min-right}
use Rattle.laws.proofs.Zero.{plus_zero-held}
use Rattle.timeline.specs.Segments.{joined}
use Rattle.timeline.specs.declared.segment.Segment.{Segment}
use Rattle.timeline.proofs.Tilings.{Starts, Chain, chain→tiles, tiles→chain}
use Rattle.shortening.specs.Shorten.{first_short, keeper, join_at, join_short, shortened_of}
use Rattle.shortening.specs.Ends.{ShorteningTiles}
use Rattle.shortening.proofs.Settles.{join_at-first, join_at-more, keeper-within, several, found, shorten-keeps, some_left}

-- ---- a join
joined_end : (from : Float) (s t : Segment) → Starts from s → Starts s.end t → (joined s t).end ≡ t.end
unfolding joined
joined_end from s t p q = max-left t.end s.end q.until.at_least_zero q.onward

joined-starts : (from : Float) (s t : Segment) → Held binary64 from → Starts from s → Starts s.end t → Starts from (joined s t)
unfolding joined
joined-starts from s t h p q =
    let e = joined_end from s t p q in
    record {
      at = rw (q.at, p.at) (min-right binary64 s.end from p.until h p.onward);
      until = rw e q.until;
      onward = rw e (le_trans from s.end t.end p.onward q.onward);
    }

join_at-chain : (p : ℕ) (from to : Float) (segments : List Segment) → suc p < length segments → Held binary64 from → Chain from to segments → Chain from to (join_at p segments)
join_at-chain p from to [] k h c = absurd (not-suc-le-zero k)
join_at-chain zero from to (s ∷ []) k h c = absurd (lt_irrefl 1 k)
join_at-chain zero from to (s ∷ t ∷ r) k h c =
    rw (join_at-first s t r) (joined-starts from s t h c.0 c.1.0, rw (joined_end from s t c.0 c.1.0) c.1.1)
join_at-chain (suc p) from to (s ∷ r) k h c = rw (join_at-more p s r) (c.0, join_at-chain p s.end to r (le_of_suc-le-suc k) c.0.until c.1)

shortened-chain : (least from to : Float) (segments : List Segment) → Held binary64 from → Chain from to segments → Chain from to (shortened_of least segments)
unfolding shortened_of join_short
shortened-chain least from to segments h =
    shorten-keeps (Chain from to) least (λ r t c. join_at-chain (keeper r (first_short least r)) from to r (keeper-within r (first_short least r) (several least r t) (found least r t)) h c) (length segments) segments

pub shortening-tiles : ShorteningTiles
shortening-tiles least duration segments t =
    chain→tiles duration (shortened_of least segments) (some_left least segments t.some) (shortened-chain least plus_zero duration segments (plus_zero-held binary64) (tiles→chain duration segments t))
