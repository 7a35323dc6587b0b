-- Laws of the pen that puts a card, whose segment i is `at i`.
use mathlib.Core.Path.{◌≡◌, sym, ap, ◌∙◌, subst}
use mathlib.Core.Bool.{false}
use mathlib.Core.List.{List, ◌++◌}
use Prim.Native.Nat.{ℕ, ◌+◌, ◌*◌, ◌^◌, ◌≤◌, ◌<◌}
use native.Mathlib.Omega.{arith}
use lib.ListN.{length, drop}
use Rattle.laws.specs.Front.{front, list}
use Rattle.laws.proofs.Front.{length-list, get_or-list}
use Rattle.bits.specs.Bits.{AllBytes, bits_of, bytes_for, with_filler, bytes_of, HasBits}
use Rattle.bits.specs.inside.Pens.{PenReady, BitsPut, bit_count, fresh_pen}
use Rattle.bits.specs.declared.pen.Pen.{Pen}
use Rattle.bits.proofs.Digits.{length-bits, length_cut}
use Rattle.bits.proofs.Puts.{put-none, put-put, put_all}
use Rattle.card.specs.Layout.{LayoutFits, HeaderFits, SegmentFits}
use Rattle.card.specs.Rules.{card_broken}
use Rattle.card.specs.declared.layout.Layout.{Layout}
use Rattle.card.specs.declared.layout.Header.{Header}
use Rattle.card.specs.declared.layout.Segment.{Segment}
use Rattle.card.proofs.Fits.{CardFits, card-fits, few-segments}
use Rattle.card_form.specs.Form.{header_bits, header_width, segment_bits, segment_width, segments_bits, segment_place, card_bits, card_bytes, card_size}
use Rattle.card_form.proofs.Lengths.{length-header, length-segments, length-card-bits, length-card, one_more, one-more-fits}
use Rattle.card_pen.specs.inside.Putting.{CanStart, CanPutSegment, CanPutSegments, CanEnd, CanWrite, filler_width, saying}

-- a number that was put has put the bits that it has
pub number_put : {a b : List ℕ} {p r : Pen} {width number : ℕ} {bits : List ℕ} → HasBits width number bits → BitsPut a b p r (bits_of width number) → BitsPut a b p r bits
number_put {a} {b} {p} {r} has put = subst (BitsPut a b p r) has.same put

-- ---- the segments, one by one
-- the first i of n segments were put
pub record Putting (l : Layout) (at : ℕ → Segment) (n : ℕ) (before after : List ℕ) (first pen : Pen) (i : ℕ) : Type 0 where
  pub inside : i ≤ n
  pub put : BitsPut before after first pen (segments_bits l (list at i))

module _ (l : Layout) (at : ℕ → Segment) (n : ℕ) where
  -- where a pen stands behind i segments
  place_after : {a b : List ℕ} {p r : Pen} (i : ℕ) → BitsPut a b p r (segments_bits l (list at i)) → bit_count r ≡ bit_count p + i * segment_width l
  place_after {a} {b} {p} i put = put.moved ∙ ap (λ (k : ℕ). bit_count p + k) (length-segments l (list at i) ∙ ap (λ (k : ℕ). k * segment_width l) (length-list at i))

  pub putting-start : (bytes : List ℕ) (pen : Pen) → PenReady pen → Putting l at n bytes bytes pen pen 0
  unfolding segments_bits list
  putting-start bytes pen ready = record { inside = omega arith; put = put-none bytes pen ready }

  -- in a turn: segment i as it was read
  module _ {before after : List ℕ} {first pen : Pen} {s : Segment} (i : ℕ) (p : Putting l at n before after first pen i) (less : i < n) (e : s ≡ at i) where
    pub putting-room : CanPutSegments before first l at n → CanPutSegment after pen l s
    putting-room can = record {
      ready = p.put.ready;
      layout = can.layout;
      fits = subst (SegmentFits l) (sym e) (can.fit i less);
      room = omega (arith, place_after i p.put, one-more-fits i n (segment_width l) less, can.room, p.put.size);
    }

    pub putting-more : {left : List ℕ} {r : Pen} → BitsPut after left pen r (segment_bits l s) → Putting l at n before left first r (i + 1)
    putting-more put = record { inside = omega (arith, less); put = rw (one_more l at i, ← ap (segment_bits l) e) (put-put p.put put) }

  pub putting-end : {before after : List ℕ} {first pen : Pen} {i : ℕ} → Putting l at n before after first pen i → n ≤ i → BitsPut before after first pen (segments_bits l (list at n))
  putting-end {before} {after} {first} {pen} {i} p h =
      let all : i ≡ n = omega (arith, h, p.inside) in
      subst (λ (k : ℕ). BitsPut before after first pen (segments_bits l (list at k))) all p.put

-- ---- the whole card
module _ (l : Layout) (h : Header) (at : ℕ → Segment) (n : ℕ) where
  counted : length (list at n) ≡ n
  counted = length-list at n

  -- how long it is
  pub card-length : length (card_bytes l (saying h at n)) ≡ card_size l n
  card-length = length-card l (saying h at n) ∙ ap (card_size l) counted

  -- where no rule is broken, its numbers fit, and the segments are few
  module _ (layout : LayoutFits l) (good : card_broken l (saying h at n) ≡ false) where
    all_fit : CardFits l (saying h at n)
    all_fit = card-fits l (saying h at n) layout good

    header-fits : HeaderFits l h n
    header-fits = subst (HeaderFits l h) counted all_fit.header

    segments-fit : (i : ℕ) → i < n → SegmentFits l (at i)
    segments-fit i less = subst (SegmentFits l) (get_or-list at n i _ less) (all_fit.segment i (rw counted less))

    pub few-written : n < 2 ^ 32
    few-written = few-segments l h n layout header-fits

  module _ {bytes : List ℕ} (can : CanWrite bytes l h at n) where
    pub can-start : CanStart bytes l h n
    can-start = record { layout = can.layout; fits = header-fits can.layout can.good; room = omega (arith, can.room) }

    module _ {headed : List ℕ} {first : Pen} (header : BitsPut bytes headed fresh_pen first (header_bits l h n)) where
      header-place : bit_count first ≡ header_width l
      header-place = omega (arith, header.moved, length-header l h n)

      pub can-put : CanPutSegments headed first l at n
      can-put = record {
        ready = header.ready;
        layout = can.layout;
        fit = segments-fit can.layout can.good;
        room = omega (arith, header-place, can.room, header.size);
      }

      module _ {after : List ℕ} {last : Pen} (segments : BitsPut headed after first last (segments_bits l (list at n))) where
        total : bit_count last ≡ segment_place l n
        total = place_after l at n n segments ∙ ap (λ (k : ℕ). k + n * segment_width l) header-place

        pub can-end : CanEnd after last
        can-end = record { ready = segments.ready; room = omega (arith, total, can.room, segments.size, header.size) }

        module _ {left : List ℕ} {r : Pen} (filler : BitsPut after left last r (bits_of (filler_width last) 0)) where
          pub size-put : r.at ≡ card_size l n
          size-put = omega (arith, filler.moved, filler.ready.few, length-bits (filler_width last) 0, total, segments.ready.few)

          -- header, segments and filler leave the card, and the rest as it was
          pub card-put : AllBytes left → left ≡ front (card_bytes l (saying h at n)) bytes
          unfolding card_bytes
          card-put known =
              let size : length (card_bits l (saying h at n)) ≡ segment_place l n = length-card-bits l (saying h at n) ∙ ap (segment_place l) counted in
              let put = put-put {ys = bits_of (filler_width last) 0} (put-put {ys = segments_bits l (list at n)} header segments) filler in
              put_all bytes left (card_bits l (saying h at n)) r (filler_width last) known
              (subst (λ (k : ℕ). BitsPut bytes left fresh_pen r (header_bits l h k ++ segments_bits l (list at n) ++ bits_of (filler_width last) 0)) (sym counted) put)
              (subst (λ (k : ℕ). k + filler_width last ≡ bytes_for k * 8) (sym size) (omega (arith, total, segments.ready.few)))
              (subst (λ (k : ℕ). bytes_for k ≤ length bytes) (sym size) can.room)
              ∙ ap (λ (k : ℕ). bytes_of (card_bits l (saying h at n)) ++ drop k bytes) (sym (length_cut _ (with_filler (card_bits l (saying h at n)))))
