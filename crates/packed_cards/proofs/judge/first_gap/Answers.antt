-- The loop's invariant: the search goes on from i, and `previous` is where segment i has to start.
use mathlib.Core.Path.{◌≡◌, refl, sym, ap, ◌∙◌}
use mathlib.Core.Bool.{not}
use Prim.Native.Nat.{ℕ}
use native.Mathlib.Numerals.{add-one}
use native.Mathlib.Omega.{arith}
use lib.Dec.{eqb}
use lib.ListN.{length, get_or}
use borrow.Author.Tests.{eq-eqb, ne_eqb}
use Rattle.laws.proofs.First.{first_start, first-again, first_out, first-end}
use Rattle.card.specs.Rules.{before}
use Rattle.packed_cards.specs.Packed.{packed_gap_at}
use Rattle.packed_cards.proofs.judge.first_gap.Goals as goal

pub loop-i-init : goal.loop-i-init
loop-i-init c = (first_start (packed_gap_at c.args.starts.now c.args.ends.now) (length c.args.ends.now), refl)

pub loop-i-preserved : goal.loop-i-preserved
loop-i-preserved c =
    let args = c.args in
    let i = c.loop-i.i in
    let good = ap (λ (x : ℕ). not (eqb (get_or args.starts.now i 0) x)) (sym c.loop-i.invariant.1) ∙ ap not (eq-eqb _ _ c.if-not-starts-i.false) in (
      first-again (packed_gap_at args.starts.now args.ends.now) (length args.ends.now) i c.loop-i.invariant.0 (omega arith) good,
      ap (before 0 (λ (k : ℕ). get_or args.ends.now k 0)) (sym (add-one i)),
    )

pub returns : goal.returns
returns c =
    let args = c.args in
    let i = c.loop-i.i in
    let all : length args.ends.now ≡ i = omega arith in
    all ∙ first-end (packed_gap_at args.starts.now args.ends.now) (length args.ends.now) i c.loop-i.invariant.0 (omega arith)

pub returns-then-not-starts-i : goal.returns-then-not-starts-i
returns-then-not-starts-i c =
    let args = c.args in
    let i = c.loop-i.i in
    let gap = ap (λ (x : ℕ). not (eqb (get_or args.starts.now i 0) x)) (sym c.loop-i.invariant.1) ∙ ap not (ne_eqb _ _ c.if-not-starts-i.true) in
    first_out (packed_gap_at args.starts.now args.ends.now) (length args.ends.now) i c.loop-i.invariant.0 (omega arith) gap
