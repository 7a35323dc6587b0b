-- The powers are read back from the room, and the callees put together.
use Rattle.std.proofs.Common.{◌≡◌, length, take, sym, ◌∙◌, arith}
use Rattle.constant_q.specs.inside.Powers.{constant_q_rows, power_at, powers_of}
use Rattle.constant_q.proofs.Rows.{from-powers}
use Rattle.filters.proofs.Rooms.{read_back, read-long}
use Rattle.constant_q.proofs.chroma.constant_q_chroma.Goals as goal

pub slice_bounds-sum_powers-end : goal.slice_bounds-sum_powers-end
unfolding powers_of
slice_bounds-sum_powers-end c =
    let long : length (take (length c.args.lengths.now) c.write_powers.new.room) ≡ length c.args.lengths.now = read-long ((let a = c.args in power_at a.samples.now a.centre a.lengths.now a.coefficients.now a.windows.now)) (length c.args.lengths.now) _ c.write_powers.ensures in
    sym (long)

pub sum_powers-requires : goal.sum_powers-requires
unfolding powers_of
sum_powers-requires c =
    let long : length (take (length c.args.lengths.now) c.write_powers.new.room) ≡ length c.args.lengths.now = read-long ((let a = c.args in power_at a.samples.now a.centre a.lengths.now a.coefficients.now a.windows.now)) (length c.args.lengths.now) _ c.write_powers.ensures in
    let l = long in (omega arith, omega arith, omega arith)

pub returns : goal.returns
unfolding powers_of
returns c =
    let back : take (length c.args.lengths.now) c.write_powers.new.room ≡ powers_of c.args.samples.now c.args.centre c.args.lengths.now c.args.coefficients.now c.args.windows.now = read_back ((let a = c.args in power_at a.samples.now a.centre a.lengths.now a.coefficients.now a.windows.now)) (length c.args.lengths.now) _ c.write_powers.ensures in
    let a = c.args in c.sum_powers.ensures ∙ rw (back) (from-powers (constant_q_rows a.lowest a.lengths.now a.coefficients.now a.windows.now) a.samples.now a.centre)
