-- The floor's bin and the next one.
use Rattle.std.proofs.Common.{◌∙◌, arith}
use Rattle.chroma.specs.Shift.{read_at}
use Rattle.chroma.proofs.Classes.{class-below}
use Rattle.chroma.proofs.shift.read_at.Goals as goal

pub overflow_add-upper : goal.overflow_add-upper
overflow_add-upper c = omega (arith, class-below _ c.class_of-lower.ensures)

pub offset_bounds-chroma-lower : goal.offset_bounds-chroma-lower
offset_bounds-chroma-lower c = omega (arith, class-below _ c.class_of-lower.ensures)

pub bounds-chroma-lower : goal.bounds-chroma-lower
bounds-chroma-lower c = omega (arith, class-below _ c.class_of-lower.ensures)

pub returns : goal.returns
unfolding read_at
returns c = c.blend.ensures ∙ rw (c.class_of-lower.ensures, c.floor-whole.ensures)
