-- Segments that are counted and wholly there: as many as both allow.
use mathlib.Core.Path.{◌≡◌, sym}
use mathlib.Core.List.{List}
use Prim.Native.Nat.{ℕ, min, ◌-◌, ◌*◌, ◌≤◌, ◌<◌}
use native.Mathlib.Nat.{min-le_left, min-le_right, le-min, min-eq_left, min-eq_right, mul-le-mul_right, div-mul-le_self, le-div_iff_mul-le, div-lt_iff_lt-mul}
use native.Mathlib.Omega.{arith}
use lib.ListN.{length}
use Rattle.bits.specs.Bits.{bits_of_bytes}
use Rattle.card.specs.declared.layout.Layout.{Layout}
use Rattle.card_form.specs.Form.{header_width, segment_width, segment_place, count_on, card_size}
use Rattle.card_mender.specs.Mending.{wholly_there, standing}

module _ (l : Layout) (bytes : List ℕ) where
  abbrev claimed : ℕ
  claimed = count_on l (bits_of_bytes bytes)

  abbrev size : ℕ
  size = length bytes

  pub standing-counted : standing l bytes ≤ claimed
  unfolding standing
  standing-counted = min-le_left claimed (wholly_there l size)

  -- fewer than the whole ones are there
  part-there : (k : ℕ) → k ≤ wholly_there l size → header_width l ≤ size * 8 → segment_place l k ≤ size * 8
  part-there k few header =
      let more = mul-le-mul_right (segment_width l) few in
      let whole = div-mul-le_self (size * 8 - header_width l) (segment_width l) in
      omega (arith, more, whole, header)

  pub standing-there : header_width l ≤ size * 8 → segment_place l (standing l bytes) ≤ size * 8
  unfolding standing
  standing-there header = part-there (min claimed (wholly_there l size)) (min-le_right claimed (wholly_there l size)) header

  there-whole : (k : ℕ) → segment_place l k ≤ size * 8 → k ≤ wholly_there l size
  there-whole k there = (le-div_iff_mul-le {k = segment_width l} (omega arith)).1 (omega (arith, there))

  -- those that are counted and there are among them
  pub standing-all : (k : ℕ) → k ≤ claimed → segment_place l k ≤ size * 8 → k ≤ standing l bytes
  unfolding standing
  standing-all k counted there = le-min counted (there-whole k there)

  -- as many bytes as the count asks for, or more
  pub standing-claimed : card_size l claimed ≤ size → claimed ≡ standing l bytes
  unfolding standing
  standing-claimed long = sym (min-eq_left (there-whole claimed (omega (arith, long))))

  -- fewer bytes
  pub standing-cut : size < card_size l claimed → header_width l ≤ size * 8 → wholly_there l size ≡ standing l bytes
  unfolding standing
  standing-cut short header =
      let less = (div-lt_iff_lt-mul {k = segment_width l} {x = size * 8 - header_width l} {y = claimed} (omega arith)).1 (omega (arith, short, header)) in
      sym (min-eq_right (omega (arith, less)))
