-- More bytes than any card has: what a card's first byte names decides, and the length refuses.
use Rattle.std.specs.Prelude.{is_some, Result, Ok, Err}
use mathlib.Core.Path.{◌≡◌, refl, sym, ap, ap₂, ◌∙◌}
use mathlib.Core.Bool.{Bool, true, false, not, ◌&&◌, cond}
use mathlib.Core.List.{List, [], ◌∷◌}
use Prim.Native.Nat.{ℕ, ◌*◌, ◌^◌, ◌≤◌, ◌<◌}
use native.Mathlib.Nat.{mul-le-mul}
use native.Mathlib.Omega.{arith}
use borrow.Author.Tests.{le-ltb, ne_eqb}
use lib.Dec.{eqb}
use lib.ListN.{length, take, drop, take-append-drop}
use lib.Seq.{take-append-le, length-take-le}
use Rattle.laws.proofs.Table.{here, next, reads}
use Rattle.bits.specs.Bits.{number_of, bits_of_bytes}
use Rattle.bits.proofs.Binary.{Binary, binary-bytes}
use Rattle.bits.proofs.Digits.{bytes-append, length-bytes}
use Rattle.bits.proofs.Fields.{AllFit, and_fits, total, fields_fit}
use Rattle.card.specs.Layout.{layouts, numbered_in, layout_or1, most_segments}
use Rattle.card.specs.declared.layout.Layout.{Layout}
use Rattle.card.proofs.Known.{Sound, found-sound}
use Rattle.card_form.specs.Form.{header_widths, header_width, segment_width, card_size, number_on, count_on}
use Rattle.card_reader.specs.declared.judge.CardError.{CardError}
use Rattle.card_reader.specs.declared.judge.CardError.TheVariants.{WrongLength, UnknownLayout}
use Rattle.card_reader.specs.Reading.{layout_on, reading_table, judged_of, read_as}
use Rattle.listing.specs.Listing.{refusal_line, listed, listing_of}
use Rattle.listing.specs.LongInputs.{read_bytes, LongInputs}

-- the last of seven numbers fits the last of seven widths
last_fits : {a b c d e f w i j k l m n number : ℕ} → AllFit (a ∷ b ∷ c ∷ d ∷ e ∷ f ∷ w ∷ []) (i ∷ j ∷ k ∷ l ∷ m ∷ n ∷ number ∷ []) → number < 2 ^ w
last_fits (and_fits _ (and_fits _ (and_fits _ (and_fits _ (and_fits _ (and_fits _ (and_fits fits _))))))) = fits

count-below : (l : Layout) (bits : List ℕ) → Binary bits → header_width l ≤ length bits → count_on l bits < 2 ^ l.count
unfolding count_on
count-below l bits b inside =
    let whole : header_width l ≡ total (header_widths l) = omega arith in
    last_fits (fields_fit (header_widths l) bits b (rw (← whole) inside))

-- no card has so many bytes
abbrev too_long : ℕ
too_long = 21_512

-- the segments take fewer
segments-short : (l : Layout) → Sound l → (count : ℕ) → count < 2 ^ l.count → count * segment_width l ≤ 4_096 * 42
segments-short l sound count few = mul-le-mul {n₂ = 4_096} {m₂ = 42} (omega (arith, few, sound.few)) (omega (arith, sound.narrow))

module _ (bytes : List ℕ) (long : too_long ≤ length bytes) where
  abbrev bits : List ℕ
  bits = bits_of_bytes bytes

  -- no card is so long
  other_length : (l : Layout) → Sound l → eqb (length bytes) (card_size l (count_on l bits)) ≡ false
  other_length l sound =
      let few = count-below l bits (binary-bytes bytes) (rw (length-bytes bytes) (omega (arith, sound.fits.count))) in
      let segments = segments-short l sound (count_on l bits) few in
      ne_eqb (length bytes) (card_size l (count_on l bits)) (λ same. omega (arith, same, segments, sound.fits.count))

  judged-long : (rows : ℕ) (known : Bool) → is_some (layout_on bits) ≡ known → judged_of bytes rows ≡ cond known (Err WrongLength) (Err UnknownLayout)
  unfolding judged_of
  judged-long rows true k =
      let l = layout_or1 (layout_on bits) in
      sym (reads {other = Ok l} {rows = reading_table bytes bits l rows}
      (next (le-ltb (length bytes) 7 (omega arith)) (here (ap₂ (λ (a b : Bool). a && not b) k (other_length l (found-sound (number_on bits)))))))
  judged-long rows false k =
      let l = layout_or1 (layout_on bits) in
      sym (reads {other = Ok l} {rows = reading_table bytes bits l rows}
      (next (le-ltb (length bytes) 7 (omega arith)) (next (ap (λ (a : Bool). a && not (eqb (length bytes) (card_size l (count_on l bits)))) k) (here (ap not k)))))

-- the number of the layout stands in the first byte
same_number : (n : ℕ) (bytes : List ℕ) → 1 ≤ n → n ≤ length bytes → number_on (bits_of_bytes (take n bytes)) ≡ number_on (bits_of_bytes bytes)
same_number n bytes some inside =
    let size : length (take n bytes) ≡ n = length-take-le n bytes inside in
    let four : 4 ≤ length (bits_of_bytes (take n bytes)) = rw length-bytes (omega arith) in
    sym (ap (λ (l : List ℕ). number_on (bits_of_bytes l)) (sym (take-append-drop n bytes))
    ∙ ap number_on (bytes-append (take n bytes) (drop n bytes))
    ∙ ap number_of (take-append-le 4 (bits_of_bytes (take n bytes)) (bits_of_bytes (drop n bytes)) four))

-- a refusal is listed by its number alone
listed-long : (bytes : List ℕ) → too_long ≤ length bytes → (known : Bool) → is_some (layout_on (bits_of_bytes bytes)) ≡ known → listing_of bytes ≡ refusal_line (cond known 20 21)
unfolding listing_of
listed-long bytes long true k = ap (λ (j : Result Layout CardError). listed (read_as (bits_of_bytes bytes) j)) (judged-long bytes long most_segments true k)
listed-long bytes long false k = ap (λ (j : Result Layout CardError). listed (read_as (bits_of_bytes bytes) j)) (judged-long bytes long most_segments false k)

same-listing : (n : ℕ) (bytes : List ℕ) → too_long ≤ n → n ≤ length bytes → listing_of (take n bytes) ≡ listing_of bytes
same-listing n bytes enough inside =
    let size : length (take n bytes) ≡ n = length-take-le n bytes inside in
    let known = is_some (layout_on (bits_of_bytes bytes)) in
    let same = ap (λ (number : ℕ). is_some (numbered_in layouts number)) (same_number n bytes (omega arith) inside) in
    listed-long (take n bytes) (omega arith) known same ∙ sym (listed-long bytes (omega arith) known refl)

pub long-inputs : LongInputs
long-inputs bytes long = same-listing read_bytes bytes (omega arith) long
