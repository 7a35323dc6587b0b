-- `card::put_bits` meets its contract. Each turn of the loop moves eight of the waiting bits into a byte; what is put_so_far stays the same.
use mathlib.Core.Path.{◌≡◌}
use mathlib.Core.List.{List, ◌++◌}
use Prim.Native.Nat.{ℕ, ◌+◌, ◌*◌, ◌^◌, ◌≤◌, ◌<◌}
use lib.ListN.{length, take, drop}
use Rattle.bits.specs.Bits.{bits_of, bits_of_bytes}
use Rattle.bits.proofs.pen.put_bits.Given as goal

-- what stands put_so_far, as the loop's variables have it
abbrev pub stands : List ℕ → ℕ → ℕ → ℕ → List ℕ
stands bytes at count waiting = bits_of_bytes (take at bytes) ++ bits_of count waiting

pub record Inv (bytes₀ : List ℕ) (at₀ count₀ waiting₀ : ℕ) (bytes : List ℕ) (at count waiting : ℕ) : Type 0 where
  pub small : waiting < 2 ^ count
  pub narrow : count ≤ 63
  pub same_bit_count : at * 8 + count ≡ at₀ * 8 + count₀
  pub room : at₀ * 8 + count₀ ≤ length bytes₀ * 8
  pub same : stands bytes at count waiting ≡ stands bytes₀ at₀ count₀ waiting₀
  pub rest : drop at bytes ≡ drop at bytes₀
  pub size : length bytes ≡ length bytes₀

abbrev pub invariant-loop-count : goal.invariant-loop-count
invariant-loop-count l = Inv l.initial.bytes l.initial.at l.initial.count l.initial.waiting l.bytes l.at l.count l.waiting

abbrev pub decreases-loop-count : goal.decreases-loop-count
decreases-loop-count l = l.count
