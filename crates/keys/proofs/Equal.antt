-- The derived `==` compares tags, which tell tonic and mode; so do the numbers.
use mathlib.Core.Path.{ap}
use mathlib.Core.Bool.{◌&&◌}
use lib.Dec.{T, eqb→eq}
use lib.Ieee.Fits.{and_l, and_r, and_i, eq→eqb}
use denote.Enum.Declared.{tag_of}
use denote.Enum.Bare.{sameb, tag_one}
use Rattle.laws.proofs.Cases.{same_test}
use Rattle.keys.specs.declared.Key.{Key}
use Rattle.keys.specs.contracts.Tonic as tonic
use Rattle.keys.specs.contracts.Mode as mode
use Rattle.keys.specs.Numbers.{same_key}
use Rattle.keys.specs.Equal.{EqualByNumber}
use Rattle.keys.proofs.Placed.{numbers-are-keys}

-- keys of one tonic and one mode have one number
one-number : (a b : Key) → T (sameb tonic.the_type a.tonic b.tonic) → T (sameb mode.the_type a.mode b.mode) → T (same_key a b)
one-number a b t m =
    let tonics = tag_one tonic.the_type tt a.tonic b.tonic (eqb→eq (tag_of tonic.the_type a.tonic) (tag_of tonic.the_type b.tonic) t) in
    let modes = tag_one mode.the_type tt a.mode b.mode (eqb→eq (tag_of mode.the_type a.mode) (tag_of mode.the_type b.mode) m) in
    eq→eqb (rw (tonics, modes))

pub equal-by-number : EqualByNumber
equal-by-number a b =
    let tonics = sameb tonic.the_type a.tonic b.tonic in
    let modes = sameb mode.the_type a.mode b.mode in
    same_test (tonics && modes) (same_key a b) (λ t. one-number a b (and_l tonics modes t) (and_r tonics modes t)) (λ t.
    let e = (numbers-are-keys.equal a b).0 t in
    and_i tonics modes (eq→eqb (ap (λ (k : Key). tag_of tonic.the_type k.tonic) e)) (eq→eqb (ap (λ (k : Key). tag_of mode.the_type k.mode) e)))
