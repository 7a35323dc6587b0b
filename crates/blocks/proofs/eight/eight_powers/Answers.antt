-- All eight lie on the track, and side by side each is as alone.
use native.Mathlib.Omega.{arith}
use mathlib.Core.Path.{ap, ◌∙◌}
use Rattle.blocks.specs.inside.Eight.{four_apart}
use Rattle.blocks.proofs.Eights.{early-lie, late-lie, eight-told}
use Rattle.blocks.proofs.eight.eight_powers.Goals as goal

pub four_apart-late-requires : goal.four_apart-late-requires
four_apart-late-requires c =
    let a = c.args in
    let lie = c.requires in
    rw c.later.ensures (omega (arith, lie.on_track))

pub run_eight-state-requires : goal.run_eight-state-requires
run_eight-state-requires c =
    let lie = c.requires in
    rw (c.four_apart-late.ensures, c.later.ensures, c.four_apart-early.ensures)
    (early-lie lie, late-lie lie, omega arith, omega arith)

pub powers_left-first-requires : goal.powers_left-first-requires
powers_left-first-requires c =
    let lie = c.requires in
    let short = lie.short in
    rw c.four_apart-early.ensures (short, short, short, short)

pub powers_left-second-requires : goal.powers_left-second-requires
powers_left-second-requires c =
    let lie = c.requires in
    let short = lie.short in
    rw (c.four_apart-late.ensures, c.later.ensures) (short, short, short, short)

pub returns : goal.returns
returns c =
    let a = c.args in
    let lately = c.four_apart-late.ensures ∙ ap (four_apart a.hop) c.later.ensures in
    eight-told a.samples.now a.windows.now a.hop a.lane c.four_apart-early.ensures lately c.run_eight-state.ensures c.powers_left-first.ensures c.powers_left-second.ensures
