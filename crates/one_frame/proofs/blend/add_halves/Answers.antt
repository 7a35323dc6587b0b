-- The closure gives half of each of two values, and stays as it is.
use Rattle.std.proofs.Common.{rules}
use lib.Ieee.{of_bits}
use Rattle.laws.proofs.FromFn.{list-from_fn}
use Rattle.one_frame.specs.Blend.{halves_of}
use Rattle.one_frame.proofs.blend.add_halves.Goals as goal

pub returns : goal.returns
unfolding halves_of of_bits
returns c = list-from_fn _ _ _ _ 12 (λ j y q l k. search rules) c.from_fn.ensures.items
