-- The lines of a card with a key, of one without, and of one that is refused.
use Rattle.std.specs.Prelude.{Result, Ok, Err}
use mathlib.Core.Path.{◌≡◌, sym, ap}
use mathlib.Core.Bool.{Bool, cond}
use mathlib.Core.List.{List, ◌++◌}
use Prim.Native.Nat.{ℕ, ◌≤◌}
use native.Mathlib.Omega.{arith}
use borrow.Author.Tests.{eq-eqb, ne_eqb}
use lib.ListN.{length, length-append}
use Rattle.bits.specs.Bits.{bits_of_bytes}
use Rattle.card.specs.Layout.{Meaning, most_segments}
use Rattle.card.specs.Rules.{no_key}
use Rattle.card.specs.declared.layout.Layout.{Layout}
use Rattle.card.specs.declared.layout.Segment.{Segment}
use Rattle.card_form.specs.Form.{meaning_on}
use Rattle.card_reader.specs.declared.judge.CardError.{CardError}
use Rattle.card_reader.specs.Reading.{refusal_number, judged_of, read_as}
use Rattle.card_reader.proofs.Ready.{ready, all_there}
use Rattle.listing.specs.Lines.{key_line}
use Rattle.listing.specs.Listing.{segment_lines, no_key_line, refusal_line, card_lines, listed, listing_of, longest_listing}
use Rattle.listing.specs.inside.Readable.{CanList}
use Rattle.listing.proofs.Sizes.{key-short}
use Rattle.listing.proofs.Segments.{lines_fit}

pub without-key : (m : Meaning) → m.header.key ≡ no_key → card_lines m ≡ no_key_line
unfolding card_lines
without-key m e = ap (λ (b : Bool). cond b no_key_line (key_line m.header.key ++ segment_lines m.segments)) (eq-eqb _ _ e)

pub with-key : (m : Meaning) → (m.header.key ≡ no_key → ⊥) → card_lines m ≡ key_line m.header.key ++ segment_lines m.segments
unfolding card_lines
with-key m n = ap (λ (b : Bool). cond b no_key_line (key_line m.header.key ++ segment_lines m.segments)) (ne_eqb _ _ n)

pub card-short : (key : ℕ) (ss : List Segment) → length ss ≤ most_segments → length (key_line key ++ segment_lines ss) ≤ longest_listing
card-short key ss few = rw length-append (omega (arith, key-short key, lines_fit ss (length ss)))

-- ---- what is listed of what was judged
module _ (card : List ℕ) where
  pub of-refused : (error : CardError) → judged_of card most_segments ≡ Err error → refusal_line (refusal_number error) ≡ listing_of card
  unfolding listing_of
  of-refused error e = sym (ap (λ (j : Result Layout CardError). listed (read_as (bits_of_bytes card) j)) e)

  pub of-readable : (l : Layout) → judged_of card most_segments ≡ Ok l → card_lines (meaning_on l (bits_of_bytes card)) ≡ listing_of card
  unfolding listing_of
  of-readable l e = sym (ap (λ (j : Result Layout CardError). listed (read_as (bits_of_bytes card) j)) e)

  pub can-list : (l : Layout) → judged_of card most_segments ≡ Ok l → CanList card l
  can-list l e = let r = ready card most_segments l e in record { fits = r.sound.fits; few = r.room; long = all_there r }
