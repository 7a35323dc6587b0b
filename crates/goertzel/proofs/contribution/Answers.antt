-- The callee's definition three times.
use mathlib.Core.Path.{refl}
use lib.Ieee.{of_bits}
use Rattle.goertzel.specs.Goertzel.{contribution_of}
use Rattle.goertzel.proofs.contribution.Goals as goal

pub returns : goal.returns
unfolding contribution_of of_bits
returns c = rw (c.add_harmonic.ensures, c.add_harmonic-third.ensures, c.add_harmonic-second.ensures) refl
