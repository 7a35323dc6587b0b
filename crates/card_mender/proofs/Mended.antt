-- What is kept of a card whose layout is known stands on it, breaks no rule, and is written in the layout that it needs.
use Rattle.std.specs.Prelude.{Some}
use mathlib.Core.Path.{◌≡◌, refl, sym, ap, ◌∙◌}
use mathlib.Core.Bool.{Bool, true, false, not, ◌&&◌, cond}
use mathlib.Core.List.{List}
use Prim.Native.Nat.{ℕ, ◌*◌, ◌^◌, ◌≤◌, ◌<◌}
use native.Mathlib.Nat.{mul-le-mul_right}
use native.Mathlib.Omega.{arith}
use lib.Dec.{eqb}
use lib.ListN.{length}
use lib.Pow.{pow_mono}
use borrow.Author.Tests.{le-ltb, not-true, eqb-false}
use Rattle.laws.specs.Front.{list}
use Rattle.bits.specs.Bits.{bits_of_bytes}
use Rattle.card.specs.Layout.{Meaning, layout1, layouts, numbered_in}
use Rattle.card.specs.Rules.{header_broken, card_broken, needless}
use Rattle.card.specs.declared.layout.Layout.{Layout}
use Rattle.card.specs.declared.layout.Header.{Header}
use Rattle.card.specs.declared.layout.Segment.{Segment}
use Rattle.card.proofs.Known.{Sound}
use Rattle.card.proofs.Chosen.{Needed}
use Rattle.card_form.specs.Form.{header_width, segment_width, segment_place, header_on, count_on, segment_on}
use Rattle.card_form.proofs.Broken.{by-segments}
use Rattle.card_reader.proofs.Apart.{count_small}
use Rattle.card_mender.specs.Mending.{has_no_key, key_broken, mended_header, standing, good_run, kept_on, mended_meaning, mended_layout}
use Rattle.card_mender.proofs.Runs.{Good, run-within, run-good}
use Rattle.card_mender.proofs.Headers.{header-mended}
use Rattle.card_mender.proofs.Standing.{standing-counted, standing-there}

module _ (l : Layout) (bytes : List ℕ) (sound : Sound l) (there : header_width l ≤ length bytes * 8) where
  abbrev header : Header
  header = header_on l (bits_of_bytes bytes)

  abbrev at : ℕ → Segment
  at = segment_on l (bits_of_bytes bytes)

  abbrev kept : ℕ
  kept = kept_on l bytes

  -- how many are kept, from whether there is a key
  abbrev kept_from : Bool → ℕ
  kept_from silent = cond silent 0 (good_run l (list at (standing l bytes)))

  kept-is : kept ≡ kept_from (has_no_key header)
  unfolding kept_on
  kept-is = refl

  kept-standing : kept ≤ standing l bytes
  kept-standing = rw kept-is (either (has_no_key header))
    where
      either : (silent : Bool) → kept_from silent ≤ standing l bytes
      either true = omega arith
      either false = run-within l at (standing l bytes)

  pub kept-counted : kept ≤ count_on l (bits_of_bytes bytes)
  kept-counted = let few = standing-counted l bytes in omega (arith, kept-standing, few)

  pub kept_there : segment_place l kept ≤ length bytes * 8
  kept_there =
      let less = mul-le-mul_right (segment_width l) kept-standing in
      let all = standing-there l bytes there in
      omega (arith, less, all)

  pub kept-few : kept < 2 ^ 32
  kept-few = let small = count_small l bytes there in omega (arith, kept-counted, small, sound.few)

  kept-good : Good l at kept
  kept-good = rw kept-is (either (has_no_key header))
    where
      either : (silent : Bool) → Good l at (kept_from silent)
      either true = omega arith
      either false = run-good l at (standing l bytes)

  -- neither 42 nor 43
  module _ (keyed : key_broken l header ≡ false) (some : not (has_no_key header) && eqb kept 0 ≡ false) where
    header-good : header_broken l (mended_header l header) kept ≡ false
    header-good =
        let small = count_small l bytes there in
        let wide : 2 ^ 10 ≤ 2 ^ l.count = pow_mono sound.long in
        header-mended l header kept (omega (arith, kept-counted, small, sound.full)) (omega (arith, wide, sound.full)) keyed (λ silent. kept-is ∙ ap kept_from silent) above
      where
        above : has_no_key header ≡ false → 0 < kept
        above heard = let more = eqb-false kept 0 (ap (λ (b : Bool). not b && eqb kept 0) (sym heard) ∙ some) in omega (arith, more)

    pub mended-good : card_broken l (mended_meaning l bytes) ≡ false
    mended-good = sym (by-segments l (mended_header l header) at kept header-good refl) ∙ le-ltb _ _ kept-good

-- the layout that a meaning is written in, where the old one holds it, is one that it needs
pub mended-needed : (l : Layout) (m : Meaning) → numbered_in layouts l.number ≡ Some l → card_broken l m ≡ false → Needed (mended_layout l m) m
unfolding needless
mended-needed l m known good = either (needless l m) refl
  where
    either : (b : Bool) → needless l m ≡ b → Needed (cond b layout1 l) m
    either true useless = record { known = refl; good = holds (eqb l.number 1) (card_broken layout1 m) useless; needed = refl }
      where
        holds : (first broken : Bool) → not first && not broken ≡ true → broken ≡ false
        holds true broken e = let z : ◌≡◌ {A = ℕ} 0 1 = cc in absurd (omega arith)
        holds false broken e = not-true broken e
    either false needed = record { known = known; good = good; needed = needed }
