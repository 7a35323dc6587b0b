-- Each branch is the definition's.
use mathlib.Core.Path.{refl}
use borrow.Author.Tests.{lt-ltb, le-ltb}
use Rattle.goertzel.specs.Goertzel.{harmonic_added}
use Rattle.goertzel.proofs.add_harmonic.Goals as goal

pub returns-then-row-magnitudes : goal.returns-then-row-magnitudes
unfolding harmonic_added
returns-then-row-magnitudes c = rw (← c.harmonic_row-row.ensures, lt-ltb _ _ c.if-row-magnitudes.true) refl

pub returns-else-row-magnitudes : goal.returns-else-row-magnitudes
unfolding harmonic_added
returns-else-row-magnitudes c = rw (← c.harmonic_row-row.ensures, le-ltb _ _ c.if-row-magnitudes.false) refl
