-- The checks leave a hop of half a second at least and a duration within the longest track, so the starts grow and the budget suffices.
use mathlib.Core.Path.{◌≡◌, refl, sym, subst}
use mathlib.Core.Bool.{Bool, not}
use Prim.Native.Nat.{ℕ}
use lib.Dec.{T, lit<}
use lib.ListN.{length}
use lib.Ieee.{Float, nan, inf, fin, binary64, le, of_bits, round}
use lib.Ieee.Scale.{finite}
use Rattle.laws.specs.Values.{a_half, ordered}
use Rattle.laws.specs.Convert.{parts}
use Rattle.laws.proofs.Order.{not-lt→le}
use Rattle.calls.specs.Call.{Call, Typed, longest_track}
use Rattle.checks.proofs.Passed.{Passed, passed}
use Rattle.windows.specs.Span.{span_of}
use Rattle.windows.specs.Rising.{Timed}
use Rattle.windows.specs.Budget.{Spread}
use Rattle.windows.proofs.Spans.{duration-under, span-timed}
use Rattle.windows.proofs.Budget.{asked-passes, one-asked}
use Rattle.rooms.specs.Room.{hasty}
use Rattle.rooms.specs.Budget.{LoopEndsItself}

pub finite-ordered : (x : Float) → T (finite x) → T (ordered x)
finite-ordered nan h = h
finite-ordered (inf s) h = tt
finite-ordered (fin s m e) h = tt

half_is : a_half ≡ parts binary64 1 1
unfolding round of_bits
half_is = refl

module _ (c : Call) (typed : Typed c.settings) {crowded : Bool} {positions : ℕ} (p : Passed c (hasty c.settings) crowded positions) where
  -- the span of a call that passed
  pub passed-timed : Timed (span_of c.settings (length c.samples))
  passed-timed =
      span-timed c.settings (length c.samples) p.worthwhile.rated p.slow p.short typed.window p.numbers.window p.worthwhile.windowed p.worthwhile.spaced

  unhasty : T (le (parts binary64 1 1) c.settings.local_hop_seconds)
  unfolding hasty of_bits
  unhasty =
      let hop = c.settings.local_hop_seconds in
      subst (λ (x : Float). T (le x hop)) half_is
      (not-lt→le hop a_half (finite-ordered hop p.numbers.hop) tt (subst (λ (b : Bool). T (not b)) (sym p.unhurried) tt))

  pub passed-spread : Spread (span_of c.settings (length c.samples)) longest_track
  unfolding span_of
  passed-spread =
      record {
        window = passed-timed.window;
        half_second = unhasty;
        duration = duration-under c.settings (length c.samples) p.worthwhile.rated p.slow p.short;
        exact = lit< tt;
      }

pub loop-ends-itself : LoopEndsItself
loop-ends-itself c crowded positions typed e =
    let s = span_of c.settings (length c.samples) in
    record { long = asked-passes s (passed-spread c typed (passed c (hasty c.settings) crowded positions e)); short = one-asked s }
