-- Laws of what a pen puts.
use mathlib.Core.Path.{◌≡◌, refl, sym, ap, ap₂, ◌∙◌}
use mathlib.Core.List.{List, [], ◌∷◌, ◌++◌, append_assoc, append-nil}
use Prim.Native.Nat.{ℕ, zero, suc, ◌+◌, ◌-◌, ◌*◌, ◌%◌, ◌^◌, ◌≤◌, ◌<◌}
use native.Mathlib.Nat.{zero-div}
use native.Mathlib.Omega.{arith}
use lib.ListN.{length, take, drop, get_or, replicate, length-append, take-append-drop}
use lib.Seq.{drop-drop, length-take-le}
use lib.Dec.{lit<}
use Rattle.bits.specs.Bits.{AllBytes, bits_of, bits_of_bytes, bytes_for, with_filler, bytes_of}
use Rattle.bits.specs.inside.Pens.{PenReady, BitsPut, put_so_far, fresh_pen}
use Rattle.bits.specs.declared.pen.Pen.{Pen}
use Rattle.bits.proofs.Digits.{length-bits, cut-bytes}

-- what is the same from n on is the same from any later place on
later : (n m : ℕ) (a b : List ℕ) → drop n b ≡ drop n a → n ≤ m → drop m b ≡ drop m a
later n m a b same h =
    let split : m ≡ n + (m - n) = omega arith in
    rw split (sym (drop-drop (m - n) n b) ∙ ap (drop (m - n)) same ∙ drop-drop (m - n) n a)

-- nothing was put
pub put-none : (a : List ℕ) (p : Pen) → PenReady p → BitsPut a a p p []
put-none a p ready = record { ready = ready; moved = omega arith; adds = sym (append-nil _); rest = refl; size = refl }

-- one put behind another
pub put-put : {a b c : List ℕ} {p q r : Pen} {xs ys : List ℕ} → BitsPut a b p q xs → BitsPut b c q r ys → BitsPut a c p r (xs ++ ys)
put-put {a} {b} {c} {p} {q} {r} {xs} {ys} f g =
    let onward : q.at ≤ r.at = omega (arith, f.ready.few, g.ready.few, g.moved) in
    record {
      ready = g.ready;
      moved = rw (length-append xs ys) (omega (arith, f.moved, g.moved));
      adds = g.adds ∙ ap (λ (bits : List ℕ). bits ++ ys) f.adds ∙ append_assoc (put_so_far a p) xs ys;
      rest = g.rest ∙ later q.at r.at a b f.rest onward;
      size = g.size ∙ f.size;
    }

-- ---- whole bytes
-- the zero bits of a filler
pub bits-zero : (n : ℕ) → bits_of n 0 ≡ replicate n 0
unfolding bits_of
bits-zero zero = refl
bits-zero (suc n) = ap₂ (λ (b : ℕ) (bs : List ℕ). b ∷ bs) (ap (λ (q : ℕ). q % 2) (zero-div (2 ^ n))) (bits-zero n)

-- a part of a list of bytes is bytes
known-take : (n : ℕ) (l : List ℕ) → AllBytes l → (i : ℕ) → get_or (take n l) i 0 < 2 ^ 8
known-take zero l known i = lit< tt
known-take (suc n) [] known i = lit< tt
known-take (suc n) (x ∷ l) known zero = known 0
known-take (suc n) (x ∷ l) known (suc i) = known-take n l (λ j. known (suc j)) i

-- bytes whose bits are some bits and filler are the bytes of those bits
pub bytes-are : (bytes bits : List ℕ) → AllBytes bytes → length bytes ≡ bytes_for (length bits) → bits_of_bytes bytes ≡ with_filler bits → bytes ≡ bytes_of bits
bytes-are bytes bits known size same = sym (cut-bytes bytes known) ∙ rw (size, same)

-- a fresh pen that put bits and their filler has left their bytes, and the rest as it was
pub put_all : (before after bits : List ℕ) (p : Pen) (filler : ℕ) → AllBytes after →
    BitsPut before after fresh_pen p (bits ++ bits_of filler 0) → length bits + filler ≡ bytes_for (length bits) * 8 → bytes_for (length bits) ≤ length before →
    after ≡ bytes_of bits ++ drop (bytes_for (length bits)) before
unfolding bits_of_bytes bits_of
put_all before after bits p filler known put full room =
    let n = bytes_for (length bits) in
    let total : length (bits ++ bits_of filler 0) ≡ length bits + filler = rw (length-append, length-bits) in
    let at : p.at ≡ n = omega (arith, put.ready.few, put.moved, total, full) in
    let none : p.count ≡ 0 = omega (arith, put.ready.few, put.moved, total, full) in
    let rest : filler ≡ n * 8 - length bits = omega (arith, full) in
    let same : bits_of_bytes (take n after) ≡ with_filler bits = rw (at, none, append-nil, bits-zero, rest) at put.adds in
    let size : length (take n after) ≡ n = length-take-le n after (omega (arith, put.size, room)) in
    sym (take-append-drop n after)
    ∙ ap₂ (λ (x y : List ℕ). x ++ y)
    (bytes-are (take n after) bits (known-take n after known) size same)
    (rw at at put.rest)
