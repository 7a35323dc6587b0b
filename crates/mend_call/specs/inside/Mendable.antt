-- What is known on the way through the table. No promise names it. Definitions only.
use Rattle.std.specs.Prelude.{◌≡◌, false, not, ◌&&◌, List, ℕ, ◌≤◌, eqb, length, Some}
use Rattle.bits.specs.Bits.{bits_of_bytes}
use Rattle.card.specs.declared.layout.Layout.{Layout}
use Rattle.card.specs.declared.layout.Header.{Header}
use Rattle.card_form.specs.Form.{header_on, count_on}
use Rattle.card_reader.specs.Reading.{layout_on}
use Rattle.card_mender.specs.Mending.{has_no_key, key_broken, kept_on}

-- behind 41: the bytes have a header, and name a layout
pub record Headed (bytes : List ℕ) (l : Layout) : Type 0 where
  pub long : 7 ≤ length bytes
  pub known : layout_on (bits_of_bytes bytes) ≡ Some l

-- behind 43: something is kept, or there is no key; and what was read and worked out
pub record Mendable (bytes : List ℕ) (l : Layout) (h : Header) (claimed kept : ℕ) : Type 0 where
  pub headed : Headed bytes l
  pub header : h ≡ header_on l (bits_of_bytes bytes)
  pub counted : claimed ≡ count_on l (bits_of_bytes bytes)
  pub left : kept ≡ kept_on l bytes
  pub keyed : key_broken l (header_on l (bits_of_bytes bytes)) ≡ false
  pub some : not (has_no_key (header_on l (bits_of_bytes bytes))) && eqb (kept_on l bytes) 0 ≡ false
