-- Without a key none, else the good ones of those that stand there.
use mathlib.Core.Path.{◌≡◌, sym, ap, subst, ◌∙◌}
use mathlib.Core.Bool.{Bool, cond}
use Prim.Native.Nat.{ℕ, ◌*◌, ◌≤◌}
use native.Mathlib.Omega.{arith}
use lib.ListN.{length}
use borrow.Author.Tests.{eq-eqb, ne_eqb}
use Rattle.laws.specs.Front.{list}
use Rattle.bits.specs.Bits.{bits_of_bytes}
use Rattle.card_form.specs.Form.{segment_place, segment_on}
use Rattle.card_mender.specs.Mending.{has_no_key, standing, good_run, kept_on}
use Rattle.card_mender.proofs.Standing.{standing-counted, standing-there}
use Rattle.card_mender.proofs.segments.kept_count.Goals as goal

pub returns-then-h-eq24 : goal.returns-then-h-eq24
unfolding kept_on
returns-then-h-eq24 c =
    let good : ℕ → ℕ = λ n. good_run c.args.l (list (segment_on c.args.l (bits_of_bytes c.args.bytes.now)) n) in
    let answer : Bool → ℕ = λ silent. cond silent 0 (good (standing c.args.l c.args.bytes.now)) in
    let of-header : (b : Bool) → has_no_key c.args.h ≡ b → answer b ≡ kept_on c.args.l c.args.bytes.now = λ w0 e. ap answer (sym e ∙ ap has_no_key c.requires.2) in
    of-header _ (eq-eqb c.args.h.key 24 c.if-h-eq24.true)

pub good_run-requires : goal.good_run-requires
good_run-requires c =
    let l = c.args.l in
    let bytes = c.args.bytes.now in
    let few = standing-counted l bytes in (
      c.requires.0,
      omega (arith, c.standing_count.ensures, few, c.requires.3, c.requires.4),
      subst (λ (n : ℕ). segment_place l n ≤ length bytes * 8) (sym c.standing_count.ensures) (standing-there l bytes c.requires.1),
    )

pub returns : goal.returns
unfolding kept_on
returns c =
    let good : ℕ → ℕ = λ n. good_run c.args.l (list (segment_on c.args.l (bits_of_bytes c.args.bytes.now)) n) in
    let answer : Bool → ℕ = λ silent. cond silent 0 (good (standing c.args.l c.args.bytes.now)) in
    let of-header : (b : Bool) → has_no_key c.args.h ≡ b → answer b ≡ kept_on c.args.l c.args.bytes.now = λ w0 e. ap answer (sym e ∙ ap has_no_key c.requires.2) in
    c.good_run.ensures
    ∙ ap good c.standing_count.ensures
    ∙ of-header _ (ne_eqb c.args.h.key 24 c.if-h-eq24.false)
