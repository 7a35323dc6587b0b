-- The call's own promise, and what follows from it.
use borrow.Author.Rules.{rules}
use Rattle.calls.specs.Call.{given, Typed}
use Rattle.rooms.specs.Lent.{lent_all}
use Rattle.ulyptesh.proofs.Analyses.{promised}
use Rattle.ulyptesh.proofs.analysis_of_track.ulyptesh_analyse.Goals as goal

pub shape_of-centres : goal.shape_of-centres
shape_of-centres c = c.centres-1.given

pub shape_of-values : goal.shape_of-values
shape_of-values c = c.values-1.given

pub shape_of-energies : goal.shape_of-energies
shape_of-energies c = c.energies-1.given

pub shape_of-work : goal.shape_of-work
shape_of-work c = c.work-1.given

pub shape_of-middles : goal.shape_of-middles
shape_of-middles c = c.middles-1.given

pub shape_of-numbers : goal.shape_of-numbers
shape_of-numbers c = c.numbers-1.given

pub shape_of-certainties : goal.shape_of-certainties
shape_of-certainties c = c.certainties-1.given

pub shape_of-shapeless : goal.shape_of-shapeless
shape_of-shapeless c = c.shapeless-1.given

pub shape_of-keys : goal.shape_of-keys
shape_of-keys c = c.keys-1.given

pub shape_of-confidences : goal.shape_of-confidences
shape_of-confidences c = c.confidences-1.given

pub shape_of-counts : goal.shape_of-counts
shape_of-counts c = c.counts-1.given

pub returns : goal.returns
returns c =
    let typed : Typed c.args.settings = record { window = search rules } in
    let args = c.args in
    promised (given args.settings args.head args.samples.now args.window.now args.coefficients.now args.weights.now args.lengths.now args.qcoefficients.now args.qwindows.now) (lent_all args.centres.now args.values.now args.energies.now args.work.now args.middles.now args.numbers.now args.certainties.now args.shapeless.now args.starts.now args.ends.now args.keys.now args.confidences.now args.counts.now) (typed) c.analyse.ensures
