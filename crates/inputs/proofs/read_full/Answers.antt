-- What a turn reads stands behind what was there before.
use Rattle.std.proofs.Common.{◌≡◌, ℕ, ◌+◌, ◌-◌, ◌≤◌, List, ◌++◌, rules, length, take, sym, ap, ap₂, ◌∙◌, subst, le_refl, drop_at, length-take-le}
use Rattle.std.proofs.KnownBytes.{Consumes-trans}
use Rattle.std.proofs.lemmas.Slice.{take-put_mid_below}
use Rattle.std.specs.Io.KnownBytes.{Consumes}
use borrow.Rule.Slice.PartMut.{put_mid, post_of}
use lib.Seq.{take-add, take-append-le}
use Rattle.inputs.proofs.read_full.Goals as goal

-- the front of a slice that was lent from a place on, and is back
front-back : (a k n : ℕ) (xs ys : List ℕ) → a ≤ length xs → n ≤ length ys → take (a + n) (put_mid a k xs ys) ≡ take a xs ++ take n ys
front-back a k n xs ys within fits =
    let behind = drop_at (take a xs) (ys ++ post_of a k xs) a (length-take-le a xs within) in
    take-add a n (put_mid a k xs ys) ∙ ap₂ (λ (l m : List ℕ). l ++ m) (take-put_mid_below _ _ _ _ _ (le_refl _) within) (ap (take n) behind ∙ take-append-le n ys (post_of a k xs) fits)

pub loop-got-preserved : goal.loop-got-preserved
loop-got-preserved g c =
    let before = c.loop-got.invariant in
    let read = c.in-Ok.ensures in
    let front = front-back c.loop-got.got (length c.loop-got.bytes - c.loop-got.got) c.in-Ok.count c.loop-got.bytes c.read.new.buf before.within read.bound.0 in
    record {
      same = search rules;
      within = search rules;
      taken = subst (Consumes _ _) (sym front) (Consumes-trans _ _ _ _ _ before.taken read.bytes.0);
    }
