-- The loop's invariant: the search goes on from i, and `previous` is where segment i has to start.
use mathlib.Core.Path.{◌≡◌, refl, sym, ap, ◌∙◌}
use mathlib.Core.Bool.{not}
use Prim.Native.Nat.{ℕ}
use native.Mathlib.Numerals.{add-one}
use native.Mathlib.Omega.{arith}
use lib.ListN.{length, get_or}
use lib.Ieee.{Float, nan, eq, of_bits}
use Rattle.laws.specs.Values.{plus_zero}
use Rattle.laws.proofs.First.{first_start, first-again, first_out, first-end}
use Rattle.card.specs.Rules.{before}
use Rattle.card_judge.specs.Analysed.{gap_at}
use Rattle.card_judge.proofs.analysed.first_gap.Goals as goal

pub loop-i-init : goal.loop-i-init
unfolding of_bits
loop-i-init c = (first_start (gap_at c.args.starts.now c.args.ends.now) (length c.args.ends.now), refl)

pub loop-i-preserved : goal.loop-i-preserved
loop-i-preserved c =
    let args = c.args in
    let i = c.loop-i.i in
    let start = get_or args.starts.now i nan in
    let good = ap (λ (x : Float). not (eq start x)) (sym c.loop-i.invariant.1) ∙ (ap not c.if-not-starts-i.false) in (
      first-again (gap_at args.starts.now args.ends.now) (length args.ends.now) i c.loop-i.invariant.0 (omega arith) good,
      ap (before plus_zero (λ (k : ℕ). get_or args.ends.now k nan)) (sym (add-one i)),
    )

pub returns : goal.returns
returns c =
    let args = c.args in
    let i = c.loop-i.i in
    let all : length args.ends.now ≡ i = omega arith in
    all ∙ first-end (gap_at args.starts.now args.ends.now) (length args.ends.now) i c.loop-i.invariant.0 (omega arith)

pub returns-then-not-starts-i : goal.returns-then-not-starts-i
returns-then-not-starts-i c =
    let args = c.args in
    let i = c.loop-i.i in
    let gap = ap (λ (x : Float). not (eq (get_or args.starts.now i nan) x)) (sym c.loop-i.invariant.1) ∙ (ap not c.if-not-starts-i.true) in
    first_out (gap_at args.starts.now args.ends.now) (length args.ends.now) i c.loop-i.invariant.0 (omega arith) gap
