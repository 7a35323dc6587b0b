-- In a tiling a segment's length is at most its end, and no end is behind the last: so k lengths are at most k times the duration.
use mathlib.Core.Path.{◌≡◌, sym, ap, ◌∙◌, subst}
use mathlib.Core.List.{List}
use Prim.Native.Nat.{ℕ, zero, suc, ◌+◌, ◌*◌, ◌^◌, ◌<◌, ◌≤◌, zero-le}
use native.Mathlib.Numerals.{add-one}
use native.Mathlib.Nat.{suc-mul, mul-le-mul_right, le_refl as nat-refl}
use native.Mathlib.Omega.{arith}
use lib.ListN.{length}
use lib.Dec.{T}
use lib.Ieee.{Float, binary64, le}
use Rattle.laws.specs.Lists.{fold}
use Rattle.laws.specs.Front.{list}
use Rattle.laws.specs.Values.{plus_zero, nonneg, Held}
use Rattle.laws.specs.Convert.{parts}
use Rattle.laws.proofs.Order.{le_trans}
use Rattle.laws.proofs.Nonneg.{nonneg→clear, nonneg-under, sub-clear}
use Rattle.laws.proofs.Pick.{max-left}
use Rattle.laws.proofs.Parts.{parts-clear, parts_held, add-under}
use Rattle.laws.proofs.Zero.{plus_zero-held, plus_zero-least, sub-under}
use Rattle.timeline.specs.Segments.{seconds, segment_at}
use Rattle.timeline.specs.Tiling.{Tiles}
use Rattle.timeline.specs.declared.segment.Segment.{Segment}
use Rattle.timeline.proofs.Tilings.{tiles-within}
use Rattle.alternates.specs.Alternate.{held_seconds}
use Rattle.alternates.specs.Named.{TiledTotalFinite}
use Rattle.alternates.proofs.Sums.{sofar, total-is, sofar-amount, sofar-more, held-amount}

-- a segment that ends no sooner than it starts
held-under : (s : Segment) → Held binary64 s.start → Held binary64 s.end → T (le s.start s.end) → T (le (held_seconds s) s.end)
unfolding held_seconds seconds
held-under s a b h =
    let under = sub-under binary64 s.end s.start b a.at_least_zero h in
    let some = nonneg-under (seconds s) s.end (sub-clear binary64 s.end s.start b.at_least_zero a.at_least_zero h) b.at_least_zero under in
    subst (λ (x : Float). T (le x s.end)) (sym (max-left (seconds s) plus_zero some (plus_zero-least (seconds s) (nonneg→clear (seconds s) some)))) under

module _ (duration : Float) (segments : List Segment) (tiles : Tiles duration segments) where
  start-held : (i : ℕ) → i < length segments → Held binary64 (segment_at segments i).start
  start-held zero h = subst (Held binary64) (sym tiles.first_start) (plus_zero-held binary64)
  start-held (suc i) h =
      let next = subst (λ (k : ℕ). (segment_at segments k).start ≡ (segment_at segments i).end) (add-one i) (tiles.next_start i (omega (arith, h))) in
      subst (Held binary64) (sym next) (tiles.times i (omega (arith, h)))

  module _ (D : ℕ) (by : T (le duration (parts binary64 0 D))) (room : length segments * D < 2 ^ 53) where
    part-under : (i : ℕ) → i < length segments → T (le (held_seconds (segment_at segments i)) (parts binary64 0 D))
    part-under i h =
        let s = segment_at segments i in
        le_trans (held_seconds s) s.end (parts binary64 0 D) (held-under s (start-held i h) (tiles.times i h) (tiles.forward i h)) (le_trans s.end duration (parts binary64 0 D) (tiles-within duration segments tiles i h) by)

    sum-under : (k : ℕ) → k ≤ length segments → T (le (sofar segments k) (parts binary64 0 (k * D)))
    unfolding fold list
    sum-under zero h = plus_zero-least (parts binary64 0 (0 * D)) (parts-clear binary64 0 (0 * D))
    sum-under (suc k) h =
        let more : suc k * D ≡ k * D + D = suc-mul k D in
        let most : suc k * D ≤ length segments * D = mul-le-mul_right D h in
        let small : k * D + D < 2 ^ 53 = omega (arith, more, most, room) in
        let next = ap (sofar segments) (sym (add-one k)) ∙ sofar-more segments k in
        let s = segment_at segments k in
        rw (next, more)
        (add-under binary64 0 zero-le (sofar segments k) (held_seconds s) (k * D) D small (sofar-amount segments k).plus (held-amount s).plus (sum-under k (omega (arith, h))) (part-under k h))

pub tiled-total-finite : TiledTotalFinite
tiled-total-finite duration segments D tiles by room =
    let n = length segments in
    subst (λ (x : Float). T (nonneg x)) (sym (total-is segments tiles.some))
    (nonneg-under (sofar segments n) (parts binary64 0 (n * D)) (sofar-amount segments n).plus (parts_held binary64 0 zero-le (n * D) room).at_least_zero
    (sum-under duration segments tiles D by room n (nat-refl n)))
