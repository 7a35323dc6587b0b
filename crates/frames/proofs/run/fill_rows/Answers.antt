-- Each way out of a turn is a law of `Runs`.
use mathlib.Core.Path.{refl, ◌∙◌}
use Rattle.calls.specs.Lent.{call_in}
use Rattle.frames.specs.Run.{energy_at}
use Rattle.frames.proofs.Runs.{heard, row_is, judged, reached-start, reached-quiet, reached-loud, reached-broken, reached-end, stocked-start, stocked-quiet, stocked-loud}
use Rattle.frames.proofs.run.fill_rows.Goals.{then-is_loud+else-not-is_whole, else-is_loud}
use Rattle.frames.proofs.run.fill_rows.Goals as goal

pub loop-position-init : goal.loop-position-init
loop-position-init c = (reached-start c.requires, stocked-start (call_in c.args.call) refl, (refl, refl, refl))

pub returns-then-not-is_whole-clause-run : goal.returns-then-not-is_whole-clause-run
unfolding energy_at
returns-then-not-is_whole-clause-run c =
    let r = c.loop-position.invariant.0 in
    let row = row_is r c.frame_energy-energy.ensures c.supply-handed.ensures.told c.frame_row-row.ensures in
    reached-broken r c.loop-position-test.true (heard r c.frame_energy-energy.ensures c.is_loud.ensures c.if-is_loud.true) (judged r row c.is_whole.ensures c.if-not-is_whole.true)

pub loop-position-preserved : goal.loop-position-preserved
unfolding energy_at
loop-position-preserved c =
    let (r, stocked, same) = c.loop-position.invariant in
    elim c.if-is_loud.branch [
      | then-is_loud+else-not-is_whole w ↦
          let row = row_is r c.frame_energy-energy.ensures w.supply-handed.ensures.told w.frame_row-row.ensures in
          let reached = reached-loud r row w.put_row.ensures.rows c.loop-position-test.true (heard r c.frame_energy-energy.ensures c.is_loud.ensures w.if-is_loud.true) (judged r row w.is_whole.ensures w.if-not-is_whole.false) in
          let (centres, values, energies) = w.put_row.ensures.same in
          rw (w.rows-is, w.block-is, w.held-is, w.count-is) (reached, stocked-loud {c = call_in c.args.call} w.supply-handed.ensures, (centres ∙ same.0, values ∙ same.1, energies ∙ same.2))
      | else-is_loud w ↦
          let reached = reached-quiet r c.loop-position-test.true (heard r c.frame_energy-energy.ensures c.is_loud.ensures w.if-is_loud.false) in
          rw (w.rows-is, w.block-is, w.held-is, w.count-is) (reached, stocked-quiet stocked, same)
    ]

pub returns-clause-run : goal.returns-clause-run
returns-clause-run c = reached-end c.loop-position.invariant.0 c.loop-position-test.false
