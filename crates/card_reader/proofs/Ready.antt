-- A card that no row of the table refuses: what each row's failure says.
use Rattle.std.specs.Prelude.{Option, Some, None, is_some, Result, Ok, Err}
use mathlib.Core.Path.{◌≡◌, refl, sym, ap, subst}
use mathlib.Core.Bool.{Bool, true, false, not, ◌&&◌}
use mathlib.Core.List.{List}
use Prim.Native.Nat.{ℕ, ◌*◌, ◌≤◌, ◌<◌}
use native.Mathlib.Omega.{arith}
use lib.Dec.{eqb}
use lib.ListN.{length}
use borrow.Author.Tests.{ltb-false, eqb-true, not-false}
use Rattle.laws.specs.Front.{list}
use Rattle.laws.proofs.Front.{length-list, get_or-list}
use Rattle.laws.proofs.Table.{fell-through, left-failed, right-failed}
use Rattle.bits.specs.Bits.{bits_of_bytes}
use Rattle.card.specs.Layout.{layout_or1, HeaderFits, SegmentFits}
use Rattle.card.specs.Rules.{card_broken, needless}
use Rattle.card.specs.declared.layout.Layout.{Layout}
use Rattle.card.proofs.Fits.{CardFits, card-fits}
use Rattle.card.proofs.Known.{Sound, found-sound}
use Rattle.card_form.specs.Form.{segment_place, card_size, number_on, header_on, count_on, segment_on, meaning_on, filler_set}
use Rattle.card_reader.specs.declared.judge.CardError.{CardError}
use Rattle.card_reader.specs.Reading.{layout_on, reading_table, judged_of}

-- what is known of a card that is read under a layout
pub record Ready (bytes : List ℕ) (rows : ℕ) (l : Layout) : Type 0 where
  pub known : layout_on (bits_of_bytes bytes) ≡ Some l
  pub sound : Sound l
  pub long : 7 ≤ length bytes
  pub whole : length bytes ≡ card_size l (count_on l (bits_of_bytes bytes))
  pub good : card_broken l (meaning_on l (bits_of_bytes bytes)) ≡ false
  pub clear : filler_set l (bits_of_bytes bytes) ≡ false
  pub needed : needless l (meaning_on l (bits_of_bytes bytes)) ≡ false
  pub room : count_on l (bits_of_bytes bytes) ≤ rows

-- a card is not refused
abbrev is_readable : Result Layout CardError → Bool
is_readable (Err number) = false
is_readable (Ok l) = true

-- a layout that was found is the one that was asked for
found-known : {found : Option Layout} {l : Layout} → not (is_some found) ≡ false → layout_or1 found ≡ l → found ≡ Some l
found-known {found = Some k} t e = ap Some e
found-known {found = None} t e = absurd (no_more t)
  where
    no_more : true ≡ false → ⊥
    no_more q = let z : ◌≡◌ {A = ℕ} 0 1 = cc in omega arith

-- where the layout is known, the length is its own
known-length : (known same : Bool) → known && not same ≡ false → not known ≡ false → same ≡ true
known-length true same e k = not-false same e
known-length false true e k = refl
known-length false false e k = sym k

pub ready : (bytes : List ℕ) (rows : ℕ) (l : Layout) → judged_of bytes rows ≡ Ok l → Ready bytes rows l
unfolding judged_of
ready bytes rows l e =
    let bits = bits_of_bytes bytes in
    let m = layout_or1 (layout_on bits) in
    let fell = fell-through is_readable (reading_table bytes bits m rows) (Ok m) {answer = Ok l} refl refl e in
    let same : m ≡ l = cc fell.below in
    let broken = card_broken m (meaning_on m bits) in
    let filler = filler_set m bits in
    record {
      known = found-known (fell.failed 2) same;
      sound = subst Sound same (found-sound (number_on bits));
      long = ltb-false (length bytes) 7 (fell.failed 0);
      whole = subst (λ (k : Layout). length bytes ≡ card_size k (count_on k bits)) same (eqb-true _ _ (known-length (is_some (layout_on bits)) (eqb (length bytes) (card_size m (count_on m bits))) (fell.failed 1) (fell.failed 2)));
      good = subst (λ (k : Layout). card_broken k (meaning_on k bits) ≡ false) same (left-failed broken filler (fell.failed 3));
      clear = subst (λ (k : Layout). filler_set k bits ≡ false) same (right-failed broken filler (fell.failed 3));
      needed = subst (λ (k : Layout). needless k (meaning_on k bits) ≡ false) same (fell.failed 4);
      room = subst (λ (k : Layout). count_on k bits ≤ rows) same (ltb-false rows (count_on m bits) (fell.failed 5));
    }

-- ---- its numbers are small
module _ {bytes : List ℕ} {rows : ℕ} {l : Layout} (r : Ready bytes rows l) where
  abbrev bits : List ℕ
  bits = bits_of_bytes bytes

  abbrev count : ℕ
  count = count_on l bits

  card : CardFits l (meaning_on l bits)
  card = card-fits l (meaning_on l bits) r.sound.fits r.good

  counted : length (list (segment_on l bits) count) ≡ count
  counted = length-list (segment_on l bits) count

  pub header-small : HeaderFits l (header_on l bits) count
  header-small = subst (HeaderFits l (header_on l bits)) counted card.header

  pub all_there : segment_place l count ≤ length bytes * 8
  all_there = omega (arith, r.whole)

  pub segment-small : (i : ℕ) → i < count → SegmentFits l (segment_on l bits i)
  segment-small i h = subst (SegmentFits l) (get_or-list (segment_on l bits) count i _ h) (card.segment i (subst (λ (n : ℕ). i < n) (sym counted) h))
