-- `program::print_header` meets its contract. Assumes nothing.
use Rattle.lines.proofs.Sizes.{room_header}
use lib.Seq.{length-take-le}
use mathlib.Core.Path.{sym}
use Rattle.lines.proofs.program.print_header.Goals as goal

pub write_header-end-requires : goal.write_header-end-requires
write_header-end-requires g c = room_header _ _ _ c.requires.1

pub slice_bounds-write_all-end-2 : goal.slice_bounds-write_all-end-2
slice_bounds-write_all-end-2 g c = sym (length-take-le _ _ c.write_header-end.ensures.within)
