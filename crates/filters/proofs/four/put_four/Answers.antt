-- A store keeps the length.
use native.Mathlib.Omega.{arith}
use lib.ListN.{length-set}
use Rattle.filters.proofs.four.put_four.Goals as goal

pub bounds-room-k-2 : goal.bounds-room-k-2
bounds-room-k-2 c = simp length-set (omega arith)

pub bounds-room-k-3 : goal.bounds-room-k-3
bounds-room-k-3 c = simp length-set (omega arith)

pub bounds-room-k-4 : goal.bounds-room-k-4
bounds-room-k-4 c = simp length-set (omega arith)
