-- Each return is a fact of `proofs/Floors.antt`.
use Rattle.std.proofs.Common.{◌≡◌, ℕ, ◌+◌, ◌^◌, ◌<◌, ◌≤◌, Bool, true, false, T, pos, sym, ap, ◌∙◌, subst, arith, le→leb}
use lib.Ieee.{Float, binary32, is_nan, le, eq, of_int, of_bits, in_float, to_unsigned}
use Rattle.laws.specs.Values.{magnitude_of}
use Rattle.laws.proofs.Cuts.{cut_of}
use Rattle.floors.proofs.Floors.{limit, Small, small, may-cut, cut_small, floor-of-nan, floor-of-big, floor-of-whole, floor-of-positive, floor-of-negative}
use Rattle.floors.proofs.floor.Goals as goal

in-float : (n : ℕ) → n ≤ 8388608 → T (in_float binary32 (pos n))
unfolding in_float
in-float n h = le→leb n (2 ^ 24) (omega arith)

-- a number whose size is below the limit, and its whole part
module _ (x : Float) {nan? : Bool} {size : Float} (n : nan? ≡ is_nan x) (number : nan? ≡ false) (m : size ≡ magnitude_of x) (low : le limit size ≡ false) where
  below : Small x
  below = small x n number (ap (le limit) (sym m) ∙ low)

  module _ {whole : ℕ} (w : whole ≡ to_unsigned 64 size) where
    whole-is : whole ≡ cut_of x
    whole-is = w ∙ ap (to_unsigned 64) m

    whole-lt : whole < 8388608
    whole-lt = subst (λ (q : ℕ). q < 8388608) (sym whole-is) (cut_small x below)

    tested : {t : Bool} → eq (of_int binary32 (pos whole)) size ≡ t → eq (of_int binary32 (pos (cut_of x))) (magnitude_of x) ≡ t
    tested h = rw (← whole-is, ← m) h

pub returns-then-is_nan : goal.returns-then-is_nan
returns-then-is_nan c = floor-of-nan c.args.x c.is_nan.ensures.value c.if-is_nan.true

pub returns-then-size : goal.returns-then-size
unfolding of_bits
returns-then-size c = floor-of-big c.args.x (subst T (sym c.well_formed.0.1) tt) (ap (le limit) (sym c.magnitude-size.ensures) ∙ c.if-size.true)

pub truncating_f32_to_u64-whole-requires : goal.truncating_f32_to_u64-whole-requires
unfolding of_bits
truncating_f32_to_u64-whole-requires c =
    let cut = may-cut c.args.x (below c.args.x c.is_nan.ensures.value c.if-is_nan.false c.magnitude-size.ensures c.if-size.false) in
    rw c.magnitude-size.ensures (record { lower_bound = cut.0; upper_bound = cut.1 })

pub int_to_float-cut : goal.int_to_float-cut
unfolding of_bits
int_to_float-cut c =
    let low = whole-lt c.args.x c.is_nan.ensures.value c.if-is_nan.false c.magnitude-size.ensures c.if-size.false c.truncating_f32_to_u64-whole.ensures in
    in-float c.truncating_f32_to_u64-whole.result (omega (arith, low))

pub returns-then-cut-size : goal.returns-then-cut-size
unfolding of_bits
returns-then-cut-size c =
    let x = c.args.x in
    let n = c.is_nan.ensures.value in
    let m = c.magnitude-size.ensures in
    floor-of-whole x (below x n c.if-is_nan.false m c.if-size.false) (tested x n c.if-is_nan.false m c.if-size.false c.truncating_f32_to_u64-whole.ensures c.if-cut-size.true)

pub overflow_add-result : goal.overflow_add-result
unfolding of_bits
overflow_add-result c =
    let low = whole-lt c.args.x c.is_nan.ensures.value c.if-is_nan.false c.magnitude-size.ensures c.if-size.false c.truncating_f32_to_u64-whole.ensures in
    omega (arith, low)

pub int_to_float-result : goal.int_to_float-result
unfolding of_bits
int_to_float-result c =
    let low = whole-lt c.args.x c.is_nan.ensures.value c.if-is_nan.false c.magnitude-size.ensures c.if-size.false c.truncating_f32_to_u64-whole.ensures in
    in-float (c.truncating_f32_to_u64-whole.result + 1) (omega (arith, low))

pub returns-then-is_negative : goal.returns-then-is_negative
unfolding of_bits
returns-then-is_negative c =
    let x = c.args.x in
    let n = c.is_nan.ensures.value in
    let m = c.magnitude-size.ensures in
    let w = c.truncating_f32_to_u64-whole.ensures in
    rw (whole-is x n c.if-is_nan.false m c.if-size.false w)
    (floor-of-negative x (below x n c.if-is_nan.false m c.if-size.false) (sym c.is_negative.ensures ∙ c.if-is_negative.true) (tested x n c.if-is_nan.false m c.if-size.false w c.if-cut-size.false))

pub returns-else-is_negative : goal.returns-else-is_negative
unfolding of_bits
returns-else-is_negative c =
    let x = c.args.x in
    let n = c.is_nan.ensures.value in
    let m = c.magnitude-size.ensures in
    let w = c.truncating_f32_to_u64-whole.ensures in
    rw (whole-is x n c.if-is_nan.false m c.if-size.false w)
    (floor-of-positive x (below x n c.if-is_nan.false m c.if-size.false) (sym c.is_negative.ensures ∙ c.if-is_negative.false) (tested x n c.if-is_nan.false m c.if-size.false w c.if-cut-size.false))
