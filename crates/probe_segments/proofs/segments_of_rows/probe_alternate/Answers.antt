-- What the calls ensure, put together.
use mathlib.Core.Path.{ap, ◌∙◌}
use Prim.Native.Nat.{ℕ}
use Rattle.keys.specs.Numbers.{key_number, key_at}
use Rattle.keys.specs.declared.Key.{Key}
use Rattle.timeline.specs.inside.Segments.{stretches, stretches_in}
use Rattle.alternates.specs.Alternate.{alternate_of}
use Rattle.probe_segments.specs.Segments.{probed_answer}
use Rattle.probe_segments.proofs.segments_of_rows.probe_alternate.Goals as goal

pub returns : goal.returns
returns c =
    let args = c.args in
    let rows = stretches args.starts.now args.ends.now args.keys.now in
    c.answer_of.ensures
    ∙ ap probed_answer
    (c.alternate_key-alternate.ensures
    ∙ ap (λ (k : Key). alternate_of (key_number k) args.threshold (stretches_in rows c.stretch_room-count.result)) c.stored_key-key.ensures
    ∙ ap (λ (n : ℕ). alternate_of (key_number (key_at args.reported)) args.threshold (stretches_in rows n)) c.stretch_room-count.ensures)
