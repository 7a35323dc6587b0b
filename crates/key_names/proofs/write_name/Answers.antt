-- `bytes` is written from the front, a byte of the name a turn.
use native.Mathlib.Omega.{arith}
use Rattle.laws.proofs.Front.{filled-start, filled_more, filled-own}
use Rattle.key_names.specs.Names.{name_of}
use Rattle.key_names.proofs.write_name.Goals as goal

pub loop-i-init : goal.loop-i-init
loop-i-init c = filled-start _ _

pub bounds-bytes-i : goal.bounds-bytes-i
bounds-bytes-i c = let l = c.loop-i.invariant.long in omega (arith, c.name_length-count.ensures)

pub loop-i-preserved : goal.loop-i-preserved
loop-i-preserved c =
    let turn = c.loop-i in
    rw c.name_byte.ensures (filled_more _ _ _ turn.i turn.invariant (omega (arith, c.name_length-count.ensures)))

pub shape_of-bytes : goal.shape_of-bytes
shape_of-bytes c = c.loop-i.invariant.long

pub returns : goal.returns
returns c =
    let turn = c.loop-i in
    let count = c.name_length-count.ensures in
    (count, filled-own (name_of c.args.key) _ _ 0 turn.i turn.invariant (omega (arith, count)))
