-- The part that was lent is the place.
use Rattle.std.proofs.Common.{◌≡◌, ℕ, ◌+◌, ◌-◌, ◌*◌, List, ◌++◌, take, drop, arith, ap₂}
use Rattle.set_places.specs.Places.{place_size, placed}
use Rattle.set_places.proofs.places.put_in_place.Goals as goal

pub returns : goal.returns
unfolding placed
returns c =
    let at = c.args.i * place_size in
    let set = c.args.set.now in
    let size : (c.args.i + 1) * place_size - at ≡ place_size = omega arith in
    ap₂ (λ (n : ℕ) (content : List ℕ). take at set ++ (content ++ drop n (drop at set))) size c.fill_place.ensures
