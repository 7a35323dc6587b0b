-- The leaf where the frame is there.
use borrow.Author.Tests.{lt-ltb, le-ltb}
use mathlib.Core.Path.{refl}
use lib.Ieee.{of_bits}
use Rattle.probe.proofs.chroma_leaves.probe_onset_weight.Goals as goal

pub returns-then-j-energies : goal.returns-then-j-energies
returns-then-j-energies c = rw (lt-ltb _ _ c.if-j-energies.true) c.weight_at.ensures

pub returns-else-j-energies : goal.returns-else-j-energies
unfolding of_bits
returns-else-j-energies c = rw (le-ltb _ _ c.if-j-energies.false) refl
