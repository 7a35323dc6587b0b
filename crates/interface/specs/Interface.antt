-- What `ulyptesh_abi` promises. Definitions only.
use Rattle.std.specs.Prelude.{ℕ}

-- the number of the C interface: it grows whenever a struct, a parameter or a meaning changes
abbrev pub interface_number : ℕ
interface_number = 5
