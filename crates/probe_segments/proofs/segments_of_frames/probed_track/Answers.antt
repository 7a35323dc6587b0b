-- What the calls ensure, put together.
use Rattle.probe_segments.proofs.segments_of_frames.probed_track.Goals as goal

pub returns : goal.returns
returns c = cc
