-- The windows of the two, added.
use lib.Dec.{lit<}
use Rattle.timeline.specs.Counts.{total_windows}
use Rattle.joining.proofs.print_two.Goals as goal

pub print_row-requires : goal.print_row-requires
unfolding total_windows
print_row-requires g c = rw (c.part.ensures, c.part-2.ensures, c.emptied.ensures) (lit< tt)
