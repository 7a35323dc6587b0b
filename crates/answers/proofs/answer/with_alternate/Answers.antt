-- An arm for each answer.
use mathlib.Core.Path.{◌≡◌, refl, ◌∙◌}
use mathlib.Core.Bool.{Bool, true, false}
use mir.Val.{bool_byte}
use lib.Ieee.{of_bits}
use Rattle.numbers.specs.Flags.{one_if}
use Rattle.answers.specs.Answer.{with_alternate}
use Rattle.answers.proofs.answer.with_alternate.Goals as goal
use Rattle.answers.proofs.answer.with_alternate.Goals.{in-Some, in-None}

byte : (holds : Bool) → bool_byte holds ≡ one_if holds
byte true = refl
byte false = refl

pub returns : goal.returns
unfolding of_bits with_alternate
returns c =
    let shapeless = c.from-2.ensures ∙ byte c.args.verdict.shapeless in
    elim c.match-other.branch [
      | in-Some w ↦ rw (w.alternate-is, w.in-Some.is, w.from-in-Some.ensures, shapeless, c.from-key.ensures, c.from.ensures)
      | in-None w ↦ rw (w.alternate-is, w.in-None.is, shapeless, c.from-key.ensures, c.from.ensures)
    ]
