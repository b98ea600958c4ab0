-- `contents::read_entry` meets its contract: the three reads are the fields of the entry.
use native.Mathlib.Omega.{arith}
use Rattle.model.specs.Contents.{entry, entry_at}
use Rattle.contents.specs.Reading.{held}
use Rattle.contents.proofs.read_entry.Goals as goal

pub overflow_add-at : goal.overflow_add-at
unfolding entry_at
overflow_add-at c = omega arith

pub read32-offset-requires : goal.read32-offset-requires
unfolding entry_at
read32-offset-requires c = omega arith

pub overflow_add-at-2 : goal.overflow_add-at-2
unfolding entry_at
overflow_add-at-2 c = omega arith

pub read32-size-requires : goal.read32-size-requires
unfolding entry_at
read32-size-requires c = omega arith

pub bounds-f-at : goal.bounds-f-at
unfolding entry_at
bounds-f-at c = omega arith

pub returns : goal.returns
unfolding held entry
returns c = rw (← c.entry_at-at.ensures, ← c.read32-offset.ensures, ← c.read32-size.ensures)
