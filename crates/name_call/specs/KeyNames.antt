-- What `ulyptesh_write_key_name` promises, as one definition of what it is given. Definitions only.
use Rattle.std.specs.Prelude.{List, ℕ, ltb}
use Rattle.keys.specs.Numbers.{key_at}
use Rattle.key_names.specs.Names.{name_of}
use Rattle.written.specs.Outcome.{BytesOutcome, written_as}

-- 11 for a number above 23 and 12 for too few bytes leave the bytes as they are; else the name stands at their front
abbrev pub key_name_of : ℕ → List ℕ → BytesOutcome
key_name_of number bytes = written_as (ltb 23 number) (name_of (key_at number)) bytes
