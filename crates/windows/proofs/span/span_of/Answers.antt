-- std rounds both numbers, and widening changes no value.
use Rattle.calls.specs.Call.{seconds_at}
use Rattle.windows.specs.Span.{span_of}
use Rattle.windows.proofs.span.span_of.Goals as goal

pub returns : goal.returns
unfolding span_of seconds_at
returns c = cc
