-- The checks decide, and a call that passes them has what the analysis needs.
use borrow.Author.Rules.{rules}
use mathlib.Core.Path.{◌≡◌, refl}
use Rattle.std.specs.Prelude.{None, Some, Ok}
use Prim.Native.Nat.{◌<◌}
use Rattle.calls.specs.Call.{given}
use Rattle.checks.specs.Checks.{Checked}
use Rattle.rooms.specs.Lent.{lent_all}
use Rattle.analysis.specs.Analyse.{table_of}
use Rattle.analysis.proofs.Supplied.{supplied}
use Rattle.analysis.proofs.Outcomes.{crowded-so, table-says, refused-so, empty-so, goes_so}
use Rattle.analysis.proofs.analyse.analyse.Goals as goal

pub analyse_positions-requires : goal.analyse_positions-requires
analyse_positions-requires c =
    let told : (known : Checked) → c.check.result ≡ known → table_of ((let args = c.args in given args.settings args.head args.samples.now args.window.now args.coefficients.now args.weights.now args.lengths.now args.qcoefficients.now args.qwindows.now)) ((let args = c.args in lent_all args.centres.now args.values.now args.energies.now args.work.now args.middles.now args.numbers.now args.certainties.now args.shapeless.now args.starts.now args.ends.now args.keys.now args.confidences.now args.counts.now)) ≡ known = λ known e. table-says ((let args = c.args in given args.settings args.head args.samples.now args.window.now args.coefficients.now args.weights.now args.lengths.now args.qcoefficients.now args.qwindows.now)) ((let args = c.args in lent_all args.centres.now args.values.now args.energies.now args.work.now args.middles.now args.numbers.now args.certainties.now args.shapeless.now args.starts.now args.ends.now args.keys.now args.confidences.now args.counts.now)) c.is_hasty.ensures
    (crowded-so ((let args = c.args in given args.settings args.head args.samples.now args.window.now args.coefficients.now args.weights.now args.lengths.now args.qcoefficients.now args.qwindows.now)) ((let args = c.args in lent_all args.centres.now args.values.now args.energies.now args.work.now args.middles.now args.numbers.now args.certainties.now args.shapeless.now args.starts.now args.ends.now args.keys.now args.confidences.now args.counts.now)) c.fewest-rows.ensures c.estimate_room-estimates.ensures c.segment_room-segments.ensures c.rows_lack-few.ensures c.frame_room-room.ensures)
    c.check.ensures e in
    let byte-note : c.args.head.maximum_midi_note < 256 = search rules in
    supplied ((let args = c.args in given args.settings args.head args.samples.now args.window.now args.coefficients.now args.weights.now args.lengths.now args.qcoefficients.now args.qwindows.now)) ((let args = c.args in lent_all args.centres.now args.values.now args.energies.now args.work.now args.middles.now args.numbers.now args.certainties.now args.shapeless.now args.starts.now args.ends.now args.keys.now args.confidences.now args.counts.now)) _ (byte-note) (told _ (let went : c.check.result ≡ Ok (Some c.in-Ok-Some.positions) = search rules in went))

pub shape_of-middles-in-Err : goal.shape_of-middles-in-Err
shape_of-middles-in-Err c = refl

pub shape_of-numbers-in-Err : goal.shape_of-numbers-in-Err
shape_of-numbers-in-Err c = refl

pub shape_of-certainties-in-Err : goal.shape_of-certainties-in-Err
shape_of-certainties-in-Err c = refl

pub shape_of-shapeless-in-Err : goal.shape_of-shapeless-in-Err
shape_of-shapeless-in-Err c = refl

pub shape_of-starts-in-Err : goal.shape_of-starts-in-Err
shape_of-starts-in-Err c = refl

pub shape_of-ends-in-Err : goal.shape_of-ends-in-Err
shape_of-ends-in-Err c = refl

pub shape_of-keys-in-Err : goal.shape_of-keys-in-Err
shape_of-keys-in-Err c = refl

pub shape_of-confidences-in-Err : goal.shape_of-confidences-in-Err
shape_of-confidences-in-Err c = refl

pub shape_of-counts-in-Err : goal.shape_of-counts-in-Err
shape_of-counts-in-Err c = refl

pub returns-in-Err : goal.returns-in-Err
returns-in-Err c =
    let told : (known : Checked) → c.check.result ≡ known → table_of ((let args = c.args in given args.settings args.head args.samples.now args.window.now args.coefficients.now args.weights.now args.lengths.now args.qcoefficients.now args.qwindows.now)) ((let args = c.args in lent_all args.centres.now args.values.now args.energies.now args.work.now args.middles.now args.numbers.now args.certainties.now args.shapeless.now args.starts.now args.ends.now args.keys.now args.confidences.now args.counts.now)) ≡ known = λ known e. table-says ((let args = c.args in given args.settings args.head args.samples.now args.window.now args.coefficients.now args.weights.now args.lengths.now args.qcoefficients.now args.qwindows.now)) ((let args = c.args in lent_all args.centres.now args.values.now args.energies.now args.work.now args.middles.now args.numbers.now args.certainties.now args.shapeless.now args.starts.now args.ends.now args.keys.now args.confidences.now args.counts.now)) c.is_hasty.ensures
    (crowded-so ((let args = c.args in given args.settings args.head args.samples.now args.window.now args.coefficients.now args.weights.now args.lengths.now args.qcoefficients.now args.qwindows.now)) ((let args = c.args in lent_all args.centres.now args.values.now args.energies.now args.work.now args.middles.now args.numbers.now args.certainties.now args.shapeless.now args.starts.now args.ends.now args.keys.now args.confidences.now args.counts.now)) c.fewest-rows.ensures c.estimate_room-estimates.ensures c.segment_room-segments.ensures c.rows_lack-few.ensures c.frame_room-room.ensures)
    c.check.ensures e in
    refused-so ((let args = c.args in given args.settings args.head args.samples.now args.window.now args.coefficients.now args.weights.now args.lengths.now args.qcoefficients.now args.qwindows.now)) ((let args = c.args in lent_all args.centres.now args.values.now args.energies.now args.work.now args.middles.now args.numbers.now args.certainties.now args.shapeless.now args.starts.now args.ends.now args.keys.now args.confidences.now args.counts.now)) (told _ c.in-Err.is) c.from.ensures c.keyless.ensures

pub shape_of-middles-in-Ok-None : goal.shape_of-middles-in-Ok-None
shape_of-middles-in-Ok-None c = refl

pub shape_of-numbers-in-Ok-None : goal.shape_of-numbers-in-Ok-None
shape_of-numbers-in-Ok-None c = refl

pub shape_of-certainties-in-Ok-None : goal.shape_of-certainties-in-Ok-None
shape_of-certainties-in-Ok-None c = refl

pub shape_of-shapeless-in-Ok-None : goal.shape_of-shapeless-in-Ok-None
shape_of-shapeless-in-Ok-None c = refl

pub shape_of-starts-in-Ok-None : goal.shape_of-starts-in-Ok-None
shape_of-starts-in-Ok-None c = refl

pub shape_of-ends-in-Ok-None : goal.shape_of-ends-in-Ok-None
shape_of-ends-in-Ok-None c = refl

pub shape_of-keys-in-Ok-None : goal.shape_of-keys-in-Ok-None
shape_of-keys-in-Ok-None c = refl

pub shape_of-confidences-in-Ok-None : goal.shape_of-confidences-in-Ok-None
shape_of-confidences-in-Ok-None c = refl

pub shape_of-counts-in-Ok-None : goal.shape_of-counts-in-Ok-None
shape_of-counts-in-Ok-None c = refl

pub returns-in-Ok-None : goal.returns-in-Ok-None
returns-in-Ok-None c =
    let told : (known : Checked) → c.check.result ≡ known → table_of ((let args = c.args in given args.settings args.head args.samples.now args.window.now args.coefficients.now args.weights.now args.lengths.now args.qcoefficients.now args.qwindows.now)) ((let args = c.args in lent_all args.centres.now args.values.now args.energies.now args.work.now args.middles.now args.numbers.now args.certainties.now args.shapeless.now args.starts.now args.ends.now args.keys.now args.confidences.now args.counts.now)) ≡ known = λ known e. table-says ((let args = c.args in given args.settings args.head args.samples.now args.window.now args.coefficients.now args.weights.now args.lengths.now args.qcoefficients.now args.qwindows.now)) ((let args = c.args in lent_all args.centres.now args.values.now args.energies.now args.work.now args.middles.now args.numbers.now args.certainties.now args.shapeless.now args.starts.now args.ends.now args.keys.now args.confidences.now args.counts.now)) c.is_hasty.ensures
    (crowded-so ((let args = c.args in given args.settings args.head args.samples.now args.window.now args.coefficients.now args.weights.now args.lengths.now args.qcoefficients.now args.qwindows.now)) ((let args = c.args in lent_all args.centres.now args.values.now args.energies.now args.work.now args.middles.now args.numbers.now args.certainties.now args.shapeless.now args.starts.now args.ends.now args.keys.now args.confidences.now args.counts.now)) c.fewest-rows.ensures c.estimate_room-estimates.ensures c.segment_room-segments.ensures c.rows_lack-few.ensures c.frame_room-room.ensures)
    c.check.ensures e in
    empty-so ((let args = c.args in given args.settings args.head args.samples.now args.window.now args.coefficients.now args.weights.now args.lengths.now args.qcoefficients.now args.qwindows.now)) ((let args = c.args in lent_all args.centres.now args.values.now args.energies.now args.work.now args.middles.now args.numbers.now args.certainties.now args.shapeless.now args.starts.now args.ends.now args.keys.now args.confidences.now args.counts.now)) (told _ (let went : c.check.result ≡ Ok None = search rules in went)) c.keyless-in-Ok-None.ensures

pub shape_of-centres : goal.shape_of-centres
shape_of-centres c = c.centres-1.given

pub shape_of-values : goal.shape_of-values
shape_of-values c = c.values-1.given

pub shape_of-energies : goal.shape_of-energies
shape_of-energies c = c.energies-1.given

pub shape_of-work : goal.shape_of-work
shape_of-work c = c.work-1.given

pub shape_of-middles-in-Ok-Some : goal.shape_of-middles-in-Ok-Some
shape_of-middles-in-Ok-Some c = c.middles-1.given

pub shape_of-numbers-in-Ok-Some : goal.shape_of-numbers-in-Ok-Some
shape_of-numbers-in-Ok-Some c = c.numbers-1.given

pub shape_of-certainties-in-Ok-Some : goal.shape_of-certainties-in-Ok-Some
shape_of-certainties-in-Ok-Some c = c.certainties-1.given

pub shape_of-shapeless-in-Ok-Some : goal.shape_of-shapeless-in-Ok-Some
shape_of-shapeless-in-Ok-Some c = c.shapeless-1.given

pub shape_of-starts-in-Ok-Some : goal.shape_of-starts-in-Ok-Some
shape_of-starts-in-Ok-Some c = c.starts-1.given

pub shape_of-ends-in-Ok-Some : goal.shape_of-ends-in-Ok-Some
shape_of-ends-in-Ok-Some c = c.ends-1.given

pub shape_of-keys-in-Ok-Some : goal.shape_of-keys-in-Ok-Some
shape_of-keys-in-Ok-Some c = c.keys-1.given

pub shape_of-confidences-in-Ok-Some : goal.shape_of-confidences-in-Ok-Some
shape_of-confidences-in-Ok-Some c = c.confidences-1.given

pub shape_of-counts-in-Ok-Some : goal.shape_of-counts-in-Ok-Some
shape_of-counts-in-Ok-Some c = c.counts-1.given

pub returns-in-Ok-Some : goal.returns-in-Ok-Some
returns-in-Ok-Some c =
    let told : (known : Checked) → c.check.result ≡ known → table_of ((let args = c.args in given args.settings args.head args.samples.now args.window.now args.coefficients.now args.weights.now args.lengths.now args.qcoefficients.now args.qwindows.now)) ((let args = c.args in lent_all args.centres.now args.values.now args.energies.now args.work.now args.middles.now args.numbers.now args.certainties.now args.shapeless.now args.starts.now args.ends.now args.keys.now args.confidences.now args.counts.now)) ≡ known = λ known e. table-says ((let args = c.args in given args.settings args.head args.samples.now args.window.now args.coefficients.now args.weights.now args.lengths.now args.qcoefficients.now args.qwindows.now)) ((let args = c.args in lent_all args.centres.now args.values.now args.energies.now args.work.now args.middles.now args.numbers.now args.certainties.now args.shapeless.now args.starts.now args.ends.now args.keys.now args.confidences.now args.counts.now)) c.is_hasty.ensures
    (crowded-so ((let args = c.args in given args.settings args.head args.samples.now args.window.now args.coefficients.now args.weights.now args.lengths.now args.qcoefficients.now args.qwindows.now)) ((let args = c.args in lent_all args.centres.now args.values.now args.energies.now args.work.now args.middles.now args.numbers.now args.certainties.now args.shapeless.now args.starts.now args.ends.now args.keys.now args.confidences.now args.counts.now)) c.fewest-rows.ensures c.estimate_room-estimates.ensures c.segment_room-segments.ensures c.rows_lack-few.ensures c.frame_room-room.ensures)
    c.check.ensures e in
    goes_so ((let args = c.args in given args.settings args.head args.samples.now args.window.now args.coefficients.now args.weights.now args.lengths.now args.qcoefficients.now args.qwindows.now)) ((let args = c.args in lent_all args.centres.now args.values.now args.energies.now args.work.now args.middles.now args.numbers.now args.certainties.now args.shapeless.now args.starts.now args.ends.now args.keys.now args.confidences.now args.counts.now)) (told _ (let went : c.check.result ≡ Ok (Some c.in-Ok-Some.positions) = search rules in went)) c.analyse_positions.ensures
