-- How a call's way to its end is answered in numbers. No promise names it. Definitions only.
use Rattle.std.specs.Prelude.{ℕ, Result, Ok, Err}
use Rattle.checks.specs.Refusals.{number_of}
use Rattle.frames_call.specs.FramesOnly.{frames_result}
use Rattle.frames_call.specs.declared.FramesResult.{FramesResult}
use Rattle.frames_call.specs.declared.Stop.{Stop}
use Rattle.frames_call.specs.declared.Stop.TheVariants.{Refused, Broken}

-- the count of rows, or the refusal, or the position that 9 names
abbrev pub answered : Result ℕ Stop → FramesResult
answered (Ok n) = frames_result 0 0 n
answered (Err (Refused refusal)) = frames_result (number_of refusal) 0 0
answered (Err (Broken at)) = frames_result 9 at.position at.count
