-- A number below 10 is written as its one digit.
use Rattle.std.proofs.Common.{◌≡◌, ℕ, ◌<◌, ◌≤◌, List, arith, ap, sym}
use lib.ListN.{length, set}
use Rattle.laws.specs.Front.{front}
use Rattle.listing.specs.Lines.{digit_code, decimal_of}
use Rattle.listing.proofs.Behind.{at-start, byte-behind}
use Rattle.listing.proofs.Decimals.{one-digit}

pub digit_size : (n : ℕ) → n < 10 → 1 ≡ length (decimal_of n)
digit_size n below = sym (ap length (one-digit n below))

pub digit_here : (n d : ℕ) (m : List ℕ) → n < 10 → d ≡ digit_code n → length (decimal_of n) ≤ length m → set m 0 d ≡ front (decimal_of n) m
digit_here n d m below is room =
    let digits = one-digit n below in
    rw (digits, is) (byte-behind (at-start m) (digit_code n) (omega (arith, room, ap length digits))).here
