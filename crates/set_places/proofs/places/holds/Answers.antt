-- The front and the rest, which together are the place.
use mathlib.Core.Path.{◌≡◌, sym, ap, ap₂, ◌∙◌}
use mathlib.Core.Bool.{Bool, ◌&&◌}
use Prim.Native.Nat.{◌-◌}
use native.Mathlib.Omega.{arith}
use lib.ListN.{length, take, drop, length-drop}
use lib.Seq.{length-take-le, take_all}
use Rattle.set_places.specs.Places.{all_zero}
use Rattle.set_places.proofs.Zeros.{holds_parts}
use Rattle.set_places.proofs.places.holds.Goals as goal

pub slice_bounds-same_bytes-end : goal.slice_bounds-same_bytes-end
slice_bounds-same_bytes-end c =
    let front_long : length (take (length c.args.card.now) c.args.place.now) ≡ length c.args.card.now = length-take-le (length c.args.card.now) c.args.place.now (omega (arith, c.requires.0, c.requires.1)) in
    sym (front_long)

pub same_bytes-requires : goal.same_bytes-requires
same_bytes-requires c =
    let front_long : length (take (length c.args.card.now) c.args.place.now) ≡ length c.args.card.now = length-take-le (length c.args.card.now) c.args.place.now (omega (arith, c.requires.0, c.requires.1)) in
    front_long

pub returns : goal.returns
returns c =
    let card = c.args.card.now in
    let place = c.args.place.now in
    let all : take (length place - length card) (drop (length card) place) ≡ drop (length card) place = take_all (length place - length card) (drop (length card) place) (rw (length-drop (length card) place) (omega arith)) in
    ap₂ (λ (a b : Bool). a && b) c.same_bytes.ensures (c.all_zero.ensures ∙ ap all_zero all) ∙ holds_parts card c.requires.1 place c.requires.0
