-- As far as all lanes reach each has the state of its own resonator, which then ends alone.
use Rattle.std.proofs.Common.{◌≡◌, ap, rules}
use Rattle.filters.specs.inside.Alone.{four_alone}
use Rattle.filters.specs.declared.four.Four.{Four}
use Rattle.filters.specs.declared.resonator.Delay.{Delay}
use Rattle.constant_q.specs.inside.Lanes.{lane_delay, four_powers}
use Rattle.constant_q.proofs.lanes.four_powers.Goals as goal

pub with-requires : goal.with-requires
unfolding four_alone
with-requires c =
    let lanes = c.args.lanes in
    let n = c.fewest-n.result in
    let d = c.run_four-delays.result in
    let reached = c.fewest-n.ensures in
    let a : d.a ≡ lane_delay c.args.samples.now c.args.windows.now lanes.a n = ap (λ (x : Four Delay). x.a) c.run_four-delays.ensures in
    let b : d.b ≡ lane_delay c.args.samples.now c.args.windows.now lanes.b n = ap (λ (x : Four Delay). x.b) c.run_four-delays.ensures in
    let e : d.c ≡ lane_delay c.args.samples.now c.args.windows.now lanes.c n = ap (λ (x : Four Delay). x.c) c.run_four-delays.ensures in
    let f : d.d ≡ lane_delay c.args.samples.now c.args.windows.now lanes.d n = ap (λ (x : Four Delay). x.d) c.run_four-delays.ensures in
    search rules

pub returns : goal.returns
unfolding four_powers
returns c = search rules
