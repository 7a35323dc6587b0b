-- A law for each answer of the run.
use Rattle.calls.specs.Call.{given}
use Rattle.rooms.specs.Lent.{lent_all}
use Rattle.positions.proofs.Positions.{stocked-so, not-finite-so, all_so}
use Rattle.positions.proofs.run.analyse_positions.Goals as goal

pub analyse_frames-requires : goal.analyse_frames-requires
analyse_frames-requires c = stocked-so ((let args = c.args in given args.settings args.head args.samples.now args.window.now args.coefficients.now args.weights.now args.lengths.now args.qcoefficients.now args.qwindows.now)) c.args.positions ((let args = c.args in lent_all args.centres.now args.values.now args.energies.now args.work.now args.middles.now args.numbers.now args.certainties.now args.shapeless.now args.starts.now args.ends.now args.keys.now args.confidences.now args.counts.now)) c.fill_slices.ensures c.in-Ok.is c.requires

pub returns-in-Err : goal.returns-in-Err
returns-in-Err c = not-finite-so ((let args = c.args in given args.settings args.head args.samples.now args.window.now args.coefficients.now args.weights.now args.lengths.now args.qcoefficients.now args.qwindows.now)) c.args.positions ((let args = c.args in lent_all args.centres.now args.values.now args.energies.now args.work.now args.middles.now args.numbers.now args.certainties.now args.shapeless.now args.starts.now args.ends.now args.keys.now args.confidences.now args.counts.now)) c.fill_slices.ensures c.in-Err.is c.keyless.ensures

pub shape_of-centres-in-Ok : goal.shape_of-centres-in-Ok
shape_of-centres-in-Ok c = c.centres-1.given

pub shape_of-values-in-Ok : goal.shape_of-values-in-Ok
shape_of-values-in-Ok c = c.values-1.given

pub shape_of-energies-in-Ok : goal.shape_of-energies-in-Ok
shape_of-energies-in-Ok c = c.energies-1.given

pub shape_of-work : goal.shape_of-work
shape_of-work c = c.work-1.given

pub shape_of-middles : goal.shape_of-middles
shape_of-middles c = c.middles-1.given

pub shape_of-numbers : goal.shape_of-numbers
shape_of-numbers c = c.numbers-1.given

pub shape_of-certainties : goal.shape_of-certainties
shape_of-certainties c = c.certainties-1.given

pub shape_of-shapeless : goal.shape_of-shapeless
shape_of-shapeless c = c.shapeless-1.given

pub shape_of-starts : goal.shape_of-starts
shape_of-starts c = c.starts-1.given

pub shape_of-ends : goal.shape_of-ends
shape_of-ends c = c.ends-1.given

pub shape_of-keys : goal.shape_of-keys
shape_of-keys c = c.keys-1.given

pub shape_of-confidences : goal.shape_of-confidences
shape_of-confidences c = c.confidences-1.given

pub shape_of-counts : goal.shape_of-counts
shape_of-counts c = c.counts-1.given

pub returns-in-Ok : goal.returns-in-Ok
returns-in-Ok c = all_so ((let args = c.args in given args.settings args.head args.samples.now args.window.now args.coefficients.now args.weights.now args.lengths.now args.qcoefficients.now args.qwindows.now)) c.args.positions ((let args = c.args in lent_all args.centres.now args.values.now args.energies.now args.work.now args.middles.now args.numbers.now args.certainties.now args.shapeless.now args.starts.now args.ends.now args.keys.now args.confidences.now args.counts.now)) c.fill_slices.ensures c.in-Ok.is c.analyse_frames.ensures
