-- The three tests joined are those of the definition.
use mathlib.Core.Bool.{true, false}
use Rattle.key_choice.proofs.Branches.{chosen}
use Rattle.key_choice.proofs.classify.choose_key.Goals as goal

pub returns-then-clear-are_relative_keys : goal.returns-then-clear-are_relative_keys
returns-then-clear-are_relative_keys c = chosen _ c.args.places true c.are_relative_keys.ensures c.is_louder.ensures c.if-clear-are_relative_keys.true

pub returns-else-clear-are_relative_keys : goal.returns-else-clear-are_relative_keys
returns-else-clear-are_relative_keys c = chosen _ c.args.places false c.are_relative_keys.ensures c.is_louder.ensures c.if-clear-are_relative_keys.false
