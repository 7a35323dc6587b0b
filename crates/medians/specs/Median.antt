-- The median: the middle entry of the sorted values. Definitions only.
use Rattle.std.specs.Prelude.{◌/◌, List, length, get_or, Float}
use Rattle.std.specs.Float.{nan}
use Rattle.ranks.specs.Sorted.{sorted_of}

-- the entry in the middle of the sorted values, the later of two
unfoldable pub median_of : List Float → Float
median_of xs = get_or (sorted_of xs) (length xs / 2) nan
