-- What the derived `==` of two keys tells. The statement.
use Rattle.std.specs.Prelude.{◌≡◌}
use Rattle.keys.specs.declared.Key.{Key}
use Rattle.keys.specs.contracts.KeyPartialEq.TheImpl.{ghosts}
use Rattle.keys.specs.Numbers.{same_key}

-- `==` of two keys compares their numbers
abbrev pub EqualByNumber : Type 0
EqualByNumber = (a b : Key) → ghosts.eq a b ≡ same_key a b
