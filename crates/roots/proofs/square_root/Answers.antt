-- The special arguments are answered by their patterns, any other by its root's.
use mathlib.Core.Path.{sym, subst, ◌∙◌}
use native.Mathlib.Omega.{arith}
use lib.Dec.{T}
use lib.Ieee.{binary32, fits}
use lib.Ieee.Bits.{to_bits-lt}
use Rattle.laws.proofs.Signs.{made-nan}
use Rattle.laws.proofs.Patterns.{number-pattern, pattern_number}
use Rattle.laws.proofs.Table.{told}
use Rattle.numbers.proofs.Tests.{number}
use Rattle.roots.proofs.Special.{root-of-nan, root-of-infinity, root-of-zero, root_below, root-by-pattern}
use Rattle.roots.proofs.square_root.Goals as goal

pub returns-then-is_nan : goal.returns-then-is_nan
returns-then-is_nan c = root-of-nan c.args.x c.is_nan.ensures.value c.if-is_nan.true

pub float_to_bits-b : goal.float_to_bits-b
float_to_bits-b c = number c.args.x c.is_nan.ensures.value c.if-is_nan.false

pub returns-then-b-eq2139095040 : goal.returns-then-b-eq2139095040
returns-then-b-eq2139095040 c =
    let held : T (fits binary32 c.args.x) = subst T (sym c.well_formed.0.1) tt in
    root-of-infinity _ (held) c.if-b-eq2139095040.true

pub returns-then-b-eq0 : goal.returns-then-b-eq0
returns-then-b-eq0 c =
    let held : T (fits binary32 c.args.x) = subst T (sym c.well_formed.0.1) tt in
    root-of-zero _ (held) c.if-b-eq0.true

pub returns-then-b-gt2147483648 : goal.returns-then-b-gt2147483648
returns-then-b-gt2147483648 c =
    let held : T (fits binary32 c.args.x) = subst T (sym c.well_formed.0.1) tt in
    made-nan binary32 ∙ root_below _ (held) c.if-b-gt2147483648.true

pub root_of_bits-requires : goal.root_of_bits-requires
root_of_bits-requires c =
    let held : T (fits binary32 c.args.x) = subst T (sym c.well_formed.0.1) tt in
    let h = number-pattern binary32 c.args.x (held) (told c.is_nan.ensures.value c.if-is_nan.false) in
    let l = to_bits-lt binary32 c.args.x (held) in
    omega arith

pub float_from_bits-result : goal.float_from_bits-result
float_from_bits-result c = let h = c.root_of_bits.ensures.finite in pattern_number binary32 c.root_of_bits.result (omega arith)

pub returns : goal.returns
returns c =
    let held : T (fits binary32 c.args.x) = subst T (sym c.well_formed.0.1) tt in
    root-by-pattern _ (held) c.root_of_bits.result c.root_of_bits.ensures.value
