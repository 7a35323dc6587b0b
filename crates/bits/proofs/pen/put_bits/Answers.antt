-- `card::put_bits` meets its contract. Each turn of the loop moves eight of the waiting bits into a byte; what is put_so_far stays the same.
use mathlib.Core.Path.{◌≡◌, refl, sym, ap, ◌∙◌, subst}
use mathlib.Core.List.{append_assoc}
use Prim.Native.Nat.{ℕ, ◌+◌, ◌-◌, ◌/◌, ◌^◌, ◌<◌}
use native.Mathlib.Nat.{mod-lt, lt_of_lt_of_le}
use native.Mathlib.Omega.{arith}
use lib.ListN.{drop, set, length-set}
use lib.Seq.{drop-set-lt, drop-drop}
use lib.Arith.{digits_lt}
use lib.Pow.{pow_pos, pow_mono, pow-add, shl_lt, shr_lt}
use Rattle.bits.proofs.Digits.{length-bits, bits-join, drained}
use Rattle.bits.proofs.pen.put_bits.Invariants.{stands}
use Rattle.bits.proofs.pen.put_bits.Goals as goal

pub joined-waiting-requires : goal.joined-waiting-requires
joined-waiting-requires c = (
  omega (arith, c.requires.narrow),
  lt_of_lt_of_le (shl_lt c.args.pen.count c.args.width c.requires.ready.small)
      (pow_mono {j = 64} (omega (arith, c.requires.ready.few, c.requires.narrow))),
  c.requires.fits,
)

pub loop-count-init : goal.loop-count-init
loop-count-init c =
    record {
      small =
          rw (c.joined-waiting.ensures, pow-add 2 c.args.pen.count c.args.width)
          (digits_lt c.requires.ready.small c.requires.fits);
      narrow = omega (arith, c.requires.ready.few, c.requires.narrow);
      same_bit_count = refl;
      room = omega (arith, c.requires.room);
      same = refl;
      rest = refl;
      size = refl;
    }

pub overflow_cast-bytes : goal.overflow_cast-bytes
overflow_cast-bytes c =
    let all : c.loop-count.count ≡ 8 + (c.loop-count.count - 8) = omega arith in
    record { fits = shr_lt 8 (c.loop-count.count - 8) (subst (λ (n : ℕ). c.loop-count.waiting < 2 ^ n) all c.loop-count.invariant.small) }

pub loop-count-preserved : goal.loop-count-preserved
loop-count-preserved c =
    let inv = c.loop-count.invariant in
    let bytes = c.loop-count.bytes in
    let bytes₀ = c.args.bytes.now in
    let at = c.loop-count.at in
    let count = c.loop-count.count - 8 in
    let waiting = c.loop-count.waiting in
    let all : 8 + count ≡ c.loop-count.count = omega arith in
    record {
      small = rw c.low_bits-waiting.ensures (mod-lt waiting (pow_pos count));
      narrow = omega arith;
      same_bit_count = omega arith;
      room = inv.room;
      same =
          ap (λ (n : ℕ). stands (set bytes at (waiting / 2 ^ count)) (at + 1) count n) c.low_bits-waiting.ensures
          ∙ drained bytes at count waiting (omega arith)
          ∙ ap (λ (n : ℕ). stands bytes at n waiting) all
          ∙ inv.same;
      rest =
          drop-set-lt (at + 1) bytes at (waiting / 2 ^ count) (omega arith)
          ∙ sym (drop-drop 1 at bytes) ∙ ap (drop 1) inv.rest ∙ drop-drop 1 at bytes₀;
      size = length-set bytes at (waiting / 2 ^ count) ∙ inv.size;
    }

pub returns : goal.returns
returns c =
    let inv = c.loop-count.invariant in
    let pen = c.args.pen in
    record {
      ready = record { few = c.loop-count-test.false; small = inv.small };
      moved = rw (length-bits c.args.width c.args.number) (omega arith);
      adds =
          inv.same
          ∙ rw (c.joined-waiting.ensures, bits-join pen.count c.args.width pen.waiting c.args.number c.requires.fits, append_assoc);
      rest = inv.rest;
      size = inv.size;
    }
