-- What the walk leaves out changes nothing: a law of `Known`.
use native.Mathlib.Omega.{arith}
use Rattle.gathering.proofs.Known.{stop-within, gathered-all}
use Rattle.gathering.proofs.gather.gather_window.Goals as goal

pub gather_frames-requires : goal.gather_frames-requires
gather_frames-requires c =
    let within = stop-within c.requires.2 c.args.end c.find_stop-stop.ensures in
    (omega (arith, within, c.requires.0), omega (arith, within, c.requires.1))

pub returns : goal.returns
returns c = gathered-all c.requires.2 c.args.end c.find_stop-stop.ensures c.gather_frames.ensures
