-- The magnitudes are read back from the room, and the callees put together.
use native.Mathlib.Omega.{arith}
use mathlib.Core.Path.{◌≡◌, refl, sym}
use lib.ListN.{length, take}
use Rattle.magnitudes.specs.Magnitudes.{row_magnitude, magnitudes_of}
use Rattle.goertzel.specs.Goertzel.{goertzel_of}
use Rattle.filters.proofs.Rooms.{read_back, read-long}
use Rattle.goertzel.proofs.goertzel_chroma.Goals as goal

pub slice_bounds-sum_contributions-end : goal.slice_bounds-sum_contributions-end
unfolding magnitudes_of
slice_bounds-sum_contributions-end c =
    let long : length ((take (length c.args.coefficients.now) c.write_magnitudes.new.room)) ≡ length c.args.coefficients.now = read-long ((let a = c.args in row_magnitude a.window.now a.coefficients.now a.samples.now a.start)) (length c.args.coefficients.now) _ c.write_magnitudes.ensures in
    sym (long)

pub sum_contributions-sums-requires : goal.sum_contributions-sums-requires
unfolding magnitudes_of
sum_contributions-sums-requires c =
    let long : length ((take (length c.args.coefficients.now) c.write_magnitudes.new.room)) ≡ length c.args.coefficients.now = read-long ((let a = c.args in row_magnitude a.window.now a.coefficients.now a.samples.now a.start)) (length c.args.coefficients.now) _ c.write_magnitudes.ensures in
    let l = long in (omega arith, omega arith, omega arith)

pub returns : goal.returns
unfolding goertzel_of magnitudes_of
returns c =
    let back : (take (length c.args.coefficients.now) c.write_magnitudes.new.room) ≡ magnitudes_of c.args.window.now c.args.coefficients.now c.args.samples.now c.args.start = read_back ((let a = c.args in row_magnitude a.window.now a.coefficients.now a.samples.now a.start)) (length c.args.coefficients.now) _ c.write_magnitudes.ensures in
    rw (c.divide_by_weights.ensures, c.sum_weights-together.ensures, c.sum_contributions-sums.ensures, back) refl
