-- A shift is a list of twelve readings, in any direction.
use Rattle.std.proofs.Common.{◌≡◌, ℕ, Bool, true, false, cond, List, length, pos}
use lib.Ieee.{Float, nan, binary32, lt, of_bits, of_int}
use Rattle.laws.specs.Values.{magnitude_of}
use Rattle.laws.proofs.Front.{length-list, get_or-list}
use Rattle.chroma.specs.Shift.{read_at, shifted, retuned, EachBinReads, TwelveStay}

module _ (direction : Float → Float → Float) (chroma : List Float) (offset : Float) where
  pub each-bin-reads : EachBinReads direction chroma offset
  unfolding shifted
  each-bin-reads bin h = get_or-list _ 12 bin nan h

  twelve-readings : length (shifted direction chroma offset) ≡ 12
  unfolding shifted
  twelve-readings = length-list (λ (bin : ℕ). read_at chroma (direction (of_int binary32 (pos bin)) offset)) 12

  either : (b : Bool) → length chroma ≡ 12 → length (cond b (shifted direction chroma offset) chroma) ≡ 12
  either true h = twelve-readings
  either false h = h

  pub twelve-stay : TwelveStay direction chroma offset
  unfolding retuned
  twelve-stay h = either (lt (of_bits binary32 0x3c23_d70a) (magnitude_of offset)) h
