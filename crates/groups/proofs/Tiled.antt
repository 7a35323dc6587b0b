-- The segments cut off so far tile up to the border behind them, which lies at or before the next centre.
use Rattle.std.proofs.Common.{◌≡◌, ℕ, zero, suc, ◌+◌, ◌-◌, ◌<◌, false, T, eqb, List, [], ◌∷◌, ◌++◌, length, sym, refl, subst, zero-lt-suc, add-one, arith, length-append, ne_eqb}
use lib.Ieee.{Float, binary64, le}
use Rattle.laws.specs.Turns.{turns}
use Rattle.laws.specs.Values.{Held, Modest, plus_zero}
use Rattle.laws.proofs.Cases.{by-test}
use Rattle.laws.proofs.Turns.{turns-last}
use Rattle.laws.proofs.Order.{le_trans}
use Rattle.laws.proofs.Nonneg.{nonneg→clear}
use Rattle.laws.proofs.Zero.{plus_zero-least}
use Rattle.laws.proofs.Middle.{midpoint-above, midpoint-below, midpoint-modest}
use Rattle.timeline.specs.Estimates.{centre_at, Rising}
use Rattle.timeline.specs.Segments.{segment}
use Rattle.timeline.specs.Tiling.{Tiles}
use Rattle.timeline.specs.declared.estimate.Estimate.{Estimate}
use Rattle.timeline.proofs.Tilings.{Starts, Chain, chain_more, chain→tiles}
use Rattle.splits.specs.Splits.{border_of, splits}
use Rattle.groups.specs.Groups.{group_of, estimate_at, groups_of, first_segments}
use Rattle.groups.proofs.Loop.{group_from, Cutting, cutting, cut_turn, closed, cut_at, groups-loop}
use Rattle.groups.specs.Tiled.{GroupsTile}

module _ (threshold duration : Float) (found : List Estimate) (whole : Modest binary64 duration) (rising : Rising duration found) where
  -- what cutting has come to at estimate j
  record Upto (j : ℕ) (c : Cutting) : Type 0 where
    tiled : Chain plus_zero c.start c.done
    begun : T (le c.start (centre_at found j))

  -- the segment of a group starts where the one before it ended
  group-starts : (from to : ℕ) (start end : Float) → Held binary64 end → T (le start end) → Starts start (group_from found from to start end)
  unfolding group_of
  group-starts from to start end h o = record { at = refl; until = h; onward = o }

  group-end : (from to : ℕ) (start end : Float) → (group_from found from to start end).end ≡ end
  unfolding group_of
  group-end from to start end = refl

  upto-start : 0 < length found → Upto 0 (cutting [] 0 plus_zero)
  upto-start h = record { tiled = refl; begun = plus_zero-least (centre_at found 0) (nonneg→clear (centre_at found 0) (rising.modest 0 h).held.at_least_zero) }

  upto-more : (j : ℕ) (c : Cutting) → j + 1 < length found → Upto j c → Upto (j + 1) (cut_turn threshold found j c)
  unfolding cut_turn border_of
  upto-more j c h u =
      by-test (Upto (j + 1)) (splits threshold (estimate_at found j) (estimate_at found (j + 1)))
      (λ _. record {
        tiled = subst (λ (x : Float). Chain plus_zero x (c.done ++ (group_from found c.from (j + 1) c.start border ∷ []))) (group-end c.from (j + 1) c.start border) (chain_more plus_zero c.start c.done (group_from found c.from (j + 1) c.start border) u.tiled (group-starts c.from (j + 1) c.start border time onward));
        begun = midpoint-below binary64 here next m m' up;
      })
      (λ _. record { tiled = u.tiled; begun = le_trans c.start here next u.begun up })
    where
      here : Float
      here = centre_at found j

      next : Float
      next = centre_at found (j + 1)

      border : Float
      border = border_of (estimate_at found j) (estimate_at found (j + 1))

      m : Modest binary64 here
      m = rising.modest j (omega arith)

      m' : Modest binary64 next
      m' = rising.modest (j + 1) h

      up : T (le here next)
      up = rising.upward j h

      time : Held binary64 border
      time = (midpoint-modest binary64 here next m m' up).held

      onward : T (le c.start border)
      onward = le_trans c.start here border u.begun (midpoint-above binary64 here next m m' up)

  upto : (j : ℕ) → j < length found → Upto j (cut_at threshold found j)
  unfolding turns
  upto zero h = upto-start h
  upto (suc j) h = subst (λ (i : ℕ). Upto i (cut_at threshold found i)) (add-one j) (subst (Upto (j + 1)) (sym (turns-last (cut_turn threshold found) j (cutting [] 0 plus_zero))) (upto-more j (cut_at threshold found j) (omega arith) (upto j (omega arith))))

  groups-tiled : 0 < length found → Tiles duration (groups_of threshold duration found)
  groups-tiled h =
      let j : ℕ = length found - 1 in
      let less : j < length found = omega arith in
      let c = cut_at threshold found j in
      let u = upto j less in
      let s = group_from found c.from (length found) c.start duration in
      let last = group-starts c.from (length found) c.start duration whole.held (le_trans c.start (centre_at found j) duration u.begun (rising.inside j less)) in
      let some : 0 < length (c.done ++ (s ∷ [])) = simp length-append (omega arith) in
      rw (groups-loop threshold found duration) (chain→tiles duration (closed found duration c) some (subst (λ (x : Float). Chain plus_zero x (c.done ++ (s ∷ []))) (group-end c.from (length found) c.start duration) (chain_more plus_zero c.start c.done s u.tiled last)))

pub groups-tile : GroupsTile
unfolding first_segments
groups-tile threshold duration key confidence [] whole rising =
    let onward = plus_zero-least duration (nonneg→clear duration whole.held.at_least_zero) in
    chain→tiles duration (segment plus_zero duration key confidence 0 ∷ []) (zero-lt-suc 0) (record { at = refl; until = whole.held; onward = onward }, refl)
groups-tile threshold duration key confidence (e ∷ r) whole rising =
    let some : eqb (length (e ∷ r)) 0 ≡ false = ne_eqb (length (e ∷ r)) 0 (λ z. omega (arith, z)) in
    rw some (groups-tiled threshold duration (e ∷ r) whole rising (zero-lt-suc (length r)))
