-- The first that breaks a rule is looked for among all, and where it is the very first, once more with that one alone.
use mathlib.Core.Path.{sym, ap, subst, ◌∙◌}
use mathlib.Core.Bool.{Bool, cond}
use Prim.Native.Nat.{ℕ, min, ◌≤◌}
use native.Mathlib.Nat.{min-le_right, mul-le-mul_right}
use native.Mathlib.Omega.{arith}
use borrow.Author.Tests.{eq-eqb, ne_eqb}
use Rattle.laws.specs.Front.{list}
use Rattle.bits.specs.Bits.{bits_of_bytes}
use Rattle.card.specs.Rules.{first_broken}
use Rattle.card_form.specs.Form.{segment_width, segment_on}
use Rattle.card_mender.proofs.Runs.{run_is}
use Rattle.card_mender.proofs.segments.good_run.Goals as goal

pub first_broken-requires : goal.first_broken-requires
first_broken-requires c =
    let few : c.fewer.result ≤ c.args.count = subst (λ (n : ℕ). n ≤ c.args.count) (sym c.fewer.ensures) (min-le_right 1 c.args.count) in
    (c.requires.0, omega (arith, few, c.requires.1), omega (arith, mul-le-mul_right (segment_width c.args.l) few, c.requires.2))

pub returns-then-run-eq0 : goal.returns-then-run-eq0
returns-then-run-eq0 c =
    let answer : Bool → ℕ = λ first. cond first (first_broken c.args.l (list (segment_on c.args.l (bits_of_bytes c.args.bytes.now)) (min 1 c.args.count))) (first_broken c.args.l (list (segment_on c.args.l (bits_of_bytes c.args.bytes.now)) c.args.count)) in
    let l = c.args.l in
    c.first_broken.ensures
    ∙ ap (λ (n : ℕ). first_broken l (list (segment_on c.args.l (bits_of_bytes c.args.bytes.now)) n)) c.fewer.ensures
    ∙ ap answer (sym (eq-eqb (first_broken l (list (segment_on c.args.l (bits_of_bytes c.args.bytes.now)) c.args.count)) 0 (sym c.first_broken-run.ensures ∙ c.if-run-eq0.true)))
    ∙ sym (run_is l (segment_on c.args.l (bits_of_bytes c.args.bytes.now)) c.args.count)

pub returns : goal.returns
returns c =
    let answer : Bool → ℕ = λ first. cond first (first_broken c.args.l (list (segment_on c.args.l (bits_of_bytes c.args.bytes.now)) (min 1 c.args.count))) (first_broken c.args.l (list (segment_on c.args.l (bits_of_bytes c.args.bytes.now)) c.args.count)) in
    let l = c.args.l in
    c.first_broken-run.ensures
    ∙ ap answer (sym (ne_eqb (first_broken l (list (segment_on c.args.l (bits_of_bytes c.args.bytes.now)) c.args.count)) 0 (λ none. c.if-run-eq0.false (c.first_broken-run.ensures ∙ none))))
    ∙ sym (run_is l (segment_on c.args.l (bits_of_bytes c.args.bytes.now)) c.args.count)
