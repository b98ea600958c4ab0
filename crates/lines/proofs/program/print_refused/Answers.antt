-- `program::print_refused` meets its contract. Assumes nothing.
use Rattle.lines.proofs.Sizes.{room_refused}
use lib.Seq.{length-take-le}
use mathlib.Core.Path.{sym}
use Rattle.lines.proofs.program.print_refused.Goals as goal

pub write_refused-end-requires : goal.write_refused-end-requires
write_refused-end-requires g c = room_refused _ _ c.requires

pub slice_bounds-write_all-end-2 : goal.slice_bounds-write_all-end-2
slice_bounds-write_all-end-2 g c = sym (length-take-le _ _ c.write_refused-end.ensures.within)
