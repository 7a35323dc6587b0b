-- A remainder by twelve, of either sign.
use Rattle.std.proofs.Common.{ℤ, pos, ap, ◌∙◌, rules}
use Rattle.std.proofs.lemmas.Int.{to_z-of_z}
use Rattle.std.specs.Int.{int_rem_euclid}
use mir.Syntax.{w32}
use mir.Val.{SFits}
use lib.IntN.{nat_abs}
use Rattle.chroma.specs.Shift.{class_of}
use Rattle.chroma.proofs.Classes.{remainder-is}
use Rattle.chroma.proofs.shift.class_of.Goals as goal

pub returns : goal.returns
unfolding class_of
returns c =
    let whole : SFits w32 c.saturating_f32_to_i32.result = search rules in
    let class : SFits w32 c.rem_euclid.result = search rules in
    let told = simp to_z-of_z at c.rem_euclid.ensures.value in
    simp to_z-of_z (ap nat_abs (told ∙ ap (λ (z : ℤ). int_rem_euclid z (pos 12)) c.saturating_f32_to_i32.ensures ∙ remainder-is _))
