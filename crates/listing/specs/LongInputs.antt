-- More bytes than any card has. The statement.
use Rattle.std.specs.Prelude.{ℕ, ◌≤◌, ◌≡◌, List, length, take}
use Rattle.listing.specs.Listing.{listing_of}

-- the size of the lister's buffer
abbrev pub read_bytes : ℕ
read_bytes = 65_536

-- what lies beyond them changes nothing; proofs/Beyond.antt proves it
abbrev pub LongInputs : Type 0
LongInputs = (bytes : List ℕ) → read_bytes ≤ length bytes → listing_of (take read_bytes bytes) ≡ listing_of bytes
