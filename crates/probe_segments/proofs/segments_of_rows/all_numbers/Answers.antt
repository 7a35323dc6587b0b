-- A number a turn, joined to those before.
use native.Mathlib.Omega.{arith}
use mathlib.Core.Path.{refl}
use Rattle.laws.specs.Every.{every}
use Rattle.laws.proofs.Every.{every_more, every-all}
use Rattle.probe_segments.specs.Segments.{is_number}
use Rattle.probe_segments.proofs.segments_of_rows.all_numbers.Goals as goal

pub loop-number-init : goal.loop-number-init
unfolding every
loop-number-init c = refl

pub loop-number-preserved : goal.loop-number-preserved
loop-number-preserved c = every_more (is_number c.args.numbers.now) c.loop-number.number-index c.loop-number.invariant

pub returns : goal.returns
returns c = every-all (is_number c.args.numbers.now) c.loop-number.number-index _ c.loop-number.invariant (omega arith)
