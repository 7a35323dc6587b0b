-- Two that agree in the frames they have give the same estimates.
use Rattle.std.proofs.Common.{◌≡◌, ℕ, zero, suc, refl}
use lib.Ieee.{Float, binary64, add}
use Rattle.gathering.specs.Gather.{Heard}
use Rattle.gathering.proofs.Alike.{Alike, gathered-alike}
use Rattle.windows.specs.Span.{start_of}
use Rattle.windows.specs.Run.{gathered_from, estimate_from, silent, estimates_before}
use Rattle.windows.specs.declared.span.Span.{Span}

module _ (s : Span) {h k : Heard} (alike : Alike h k) where
  same-window : (start : Float) → gathered_from s h start ≡ gathered_from s k start
  unfolding gathered_from
  same-window start = gathered-alike alike start (add binary64 start s.window)

  pub estimates-alike : (n : ℕ) → estimates_before s h n ≡ estimates_before s k n
  unfolding estimates_before silent estimate_from
  estimates-alike zero = refl
  estimates-alike (suc n) = rw (same-window (start_of s n), estimates-alike n)
