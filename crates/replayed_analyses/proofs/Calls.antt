-- A record's place in the file, and the call that its numbers make.
use mathlib.Core.Path.{◌≡◌, ap}
use Prim.Native.Nat.{ℕ, ◌+◌, ◌*◌, ◌<◌, ◌≤◌}
use native.Mathlib.Omega.{arith}
use mathlib.Core.List.{List}
use lib.ListN.{length}
use lib.Ieee.{Float}
use Rattle.calls.specs.Call.{Call}
use Rattle.calls.specs.inside.Parts.{call_of}
use Rattle.calls.specs.declared.Settings.{Settings}
use Rattle.calls.specs.declared.SheetHead.{SheetHead}
use Rattle.analysis.specs.Analyse.{analysed}
use Rattle.stored_analyses.specs.Stored.{values_at, numbers_at, settings_at, head_at, call_at}
use Rattle.stored_analyses.specs.Outcome.{same_outcome}
use Rattle.replayed_analyses.specs.Analyses.{blank, agrees, records_in}

-- each record that is counted ends before the file does
pub record-there : (bytes : List ℕ) {count : ℕ} (n : ℕ) → count ≡ records_in bytes → n < count → 3648 + n * 2424 + 2424 ≤ length bytes
unfolding records_in
record-there bytes n e h = omega arith

-- what is read is the record's call
pub call-judged : (bytes : List ℕ) (start : ℕ) {settings : Settings} {head : SheetHead} {samples window coefficients weights qcoefficients qwindows : List Float} {lengths : List ℕ}
    → settings ≡ settings_at bytes start
    → head ≡ head_at bytes 0
    → samples ≡ values_at bytes (start + 44) 384
    → window ≡ values_at bytes 16 32
    → coefficients ≡ values_at bytes 144 14
    → weights ≡ values_at bytes 200 14
    → lengths ≡ numbers_at bytes 256 14
    → qcoefficients ≡ values_at bytes 312 14
    → qwindows ≡ values_at bytes 368 820
    → same_outcome bytes start (analysed (call_of settings head samples window coefficients weights lengths qcoefficients qwindows) blank) ≡ agrees bytes start
unfolding agrees
call-judged bytes start {settings} {head} {samples} {window} {coefficients} {weights} {qcoefficients} {qwindows} {lengths} e f g h i j k l m =
    let same : call_of settings head samples window coefficients weights lengths qcoefficients qwindows ≡ call_at bytes start = cc in
    ap (λ (call : Call). same_outcome bytes start (analysed call blank)) same
