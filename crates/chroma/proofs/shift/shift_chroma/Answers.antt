-- The closure reads one bin, and stays as it is.
use Rattle.std.proofs.Common.{rules}
use Rattle.laws.proofs.FromFn.{list-from_fn}
use Rattle.chroma.specs.Shift.{shifted}
use Rattle.chroma.proofs.shift.shift_chroma.Goals as goal

pub returns : goal.returns
unfolding shifted
returns c = list-from_fn _ _ _ _ 12 (λ j y q l k. search rules) c.from_fn.ensures.items
