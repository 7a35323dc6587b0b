-- A row a turn, joined to those before.
use Prim.Native.Nat.{ℕ}
use mathlib.Core.Path.{◌≡◌}
use lib.ListN.{get_or}
use Rattle.laws.specs.Every.{every}
use Rattle.blocks.specs.inside.Block.{whole_at}
use Rattle.blocks.proofs.block.are_whole.Given as goal

abbrev pub invariant-loop-length : goal.invariant-loop-length
invariant-loop-length l = l.sofar ≡ every (λ (i : ℕ). whole_at l.samples l.centre l.hop (get_or l.lengths i 0)) l.length-index
