-- A header that breaks no rule beside the fewest segments breaks none beside more; and without a broken alternate it breaks none.
use mathlib.Core.Path.{◌≡◌, refl, sym, ap, ◌∙◌}
use mathlib.Core.Bool.{Bool, true, false, cond}
use Prim.Native.Nat.{ℕ, ◌≤◌, ◌<◌}
use native.Mathlib.Omega.{arith}
use lib.Dec.{eqb, ltb}
use borrow.Author.Tests.{le-ltb, ne_eqb}
use Rattle.card.specs.Rules.{header_broken}
use Rattle.card.specs.declared.layout.Layout.{Layout}
use Rattle.card.specs.declared.layout.Header.{Header}
use Rattle.card_mender.specs.Mending.{has_no_key, fewest, without_alternate, key_broken, alternate_goes, mended_header}

-- of the count a header's rules ask whether it is 0 and whether it is too large
count-asked : (l : Layout) (h : Header) (a b : ℕ) → ltb l.most a ≡ ltb l.most b → eqb a 0 ≡ eqb b 0 → header_broken l h a ≡ header_broken l h b
unfolding header_broken
count-asked l h a b most none = rw (most, none)

module _ (l : Layout) (h : Header) where
  -- the key stays
  pub key-stays : (mended_header l h).key ≡ h.key
  key-stays = either (alternate_goes l h)
    where
      either : (b : Bool) → (cond b (without_alternate h) h).key ≡ h.key
      either true = refl
      either false = refl

  -- where key, DSP key and confidence break no rule, what is kept of the header breaks none
  mended-fewest : key_broken l h ≡ false → header_broken l (mended_header l h) (fewest h) ≡ false
  unfolding key_broken alternate_goes
  mended-fewest good = either (header_broken l h (fewest h)) refl
    where
      either : (b : Bool) → header_broken l h (fewest h) ≡ b → header_broken l (cond b (without_alternate h) h) (fewest h) ≡ false
      either true e = good
      either false e = e

  -- as many segments as the key allows
  module _ (count : ℕ) (few : count ≤ l.most) (some : 1 ≤ l.most) where
    none-as : (silent : Bool) → (silent ≡ true → count ≡ 0) → (silent ≡ false → 0 < count) → eqb count 0 ≡ eqb (cond silent 0 1) 0
    none-as true none one = ap (λ (n : ℕ). eqb n 0) (none refl)
    none-as false none one = ne_eqb count 0 (λ zero. omega (arith, zero, one refl))

    fewest-allowed : (silent : Bool) → ltb l.most (cond silent 0 1) ≡ false
    fewest-allowed true = le-ltb l.most 0 (omega arith)
    fewest-allowed false = le-ltb l.most 1 some

    pub header-mended : key_broken l h ≡ false → (has_no_key h ≡ true → count ≡ 0) → (has_no_key h ≡ false → 0 < count) → header_broken l (mended_header l h) count ≡ false
    header-mended good none one =
        count-asked l (mended_header l h) count (fewest h) (le-ltb l.most count few ∙ sym (fewest-allowed (has_no_key h))) (none-as (has_no_key h) none one)
        ∙ mended-fewest good
