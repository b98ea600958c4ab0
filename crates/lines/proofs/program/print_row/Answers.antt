-- `program::print_row` meets its contract. Assumes nothing.
use Rattle.lines.proofs.Sizes.{room_row}
use lib.Seq.{length-take-le}
use mathlib.Core.Path.{sym}
use Rattle.lines.proofs.program.print_row.Goals as goal

pub write_row-end-requires : goal.write_row-end-requires
write_row-end-requires g c = (c.requires.0, c.requires.1, room_row _ _ _ c.requires.2)

pub slice_bounds-write_all-end-2 : goal.slice_bounds-write_all-end-2
slice_bounds-write_all-end-2 g c = sym (length-take-le _ _ c.write_row-end.ensures.text.within)

pub returns : goal.returns
returns g c = c.write_row-end.ensures.opened
