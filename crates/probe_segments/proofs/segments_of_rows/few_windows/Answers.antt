-- The sum so far, or 2^32 where it has come to that.
use mathlib.Core.Path.{◌≡◌, refl, ap, ◌∙◌}
use Prim.Native.Nat.{ℕ, min}
use native.Mathlib.Omega.{arith}
use lib.ListN.{length}
use Rattle.probe_segments.specs.Segments.{counts_upto}
use Rattle.probe_segments.proofs.Segmenting.{held_below, counts-more}
use Rattle.probe_segments.proofs.segments_of_rows.few_windows.Goals as goal

pub loop-windows-init : goal.loop-windows-init
unfolding counts_upto
loop-windows-init c = refl

pub loop-windows-preserved : goal.loop-windows-preserved
loop-windows-preserved c =
    let sofar = c.loop-windows.invariant in
    let more = counts-more c.args.counts.now c.loop-windows.windows-index in
    omega (arith, c.min-total.ensures, c.from.ensures, sofar, more)

pub returns : goal.returns
returns c =
    let counts = c.args.counts.now in
    let all : c.loop-windows.windows-index ≡ length counts = omega arith in
    held_below (counts_upto counts (length counts)) 4_294_967_296 4_294_967_296 (omega arith) (c.loop-windows.invariant ∙ ap (λ (k : ℕ). min (counts_upto counts k) 4_294_967_296) all)
