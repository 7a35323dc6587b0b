-- A pen that puts bits into lent bytes from their front. No promise names it. Definitions only.
use Rattle.std.specs.Prelude.{◌≡◌, List, ◌++◌, ℕ, ◌+◌, ◌*◌, ◌^◌, ◌<◌, ◌≤◌, length, take, drop}
use Rattle.bits.specs.Bits.{bits_of, bits_of_bytes}
use Rattle.bits.specs.declared.pen.Pen.{Pen}

-- what a pen has put: whole bytes, and the bits that wait for theirs
abbrev pub put_so_far : List ℕ → Pen → List ℕ
put_so_far bytes pen = bits_of_bytes (take pen.at bytes) ++ bits_of pen.count pen.waiting

-- how many bits that is
abbrev pub bit_count : Pen → ℕ
bit_count pen = pen.at * 8 + pen.count

-- a pen before its first bit
abbrev pub fresh_pen : Pen
fresh_pen = record { at = 0; count = 0; waiting = 0 }

-- fewer than eight bits wait
pub record PenReady (pen : Pen) : Type 0 where
  pub few : pen.count < 8
  pub small : pen.waiting < 2 ^ pen.count

-- what a pen needs before it puts a number: few bits wait, the number fits its width, and there is room
pub record CanPut (bytes : List ℕ) (pen : Pen) (width number : ℕ) : Type 0 where
  pub ready : PenReady pen
  pub narrow : width ≤ 56
  pub fits : number < 2 ^ width
  pub room : bit_count pen + width ≤ length bytes * 8

-- bits were put: they stand behind what was put before, and no byte past the pen has changed
pub record BitsPut (before after : List ℕ) (pen r : Pen) (bits : List ℕ) : Type 0 where
  pub ready : PenReady r
  pub moved : bit_count r ≡ bit_count pen + length bits
  pub adds : put_so_far after r ≡ put_so_far before pen ++ bits
  pub rest : drop r.at after ≡ drop r.at before
  pub size : length after ≡ length before
