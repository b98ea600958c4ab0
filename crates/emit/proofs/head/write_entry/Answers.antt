-- `emit::head::write_entry` meets its contract. Assumes nothing.
use Prim.Native.Nat.{◌+◌, ◌≤◌}
use Rattle.emit.proofs.Offsets.{contents_written}
use Rattle.model.specs.Contents.{contents_entry_size, entry_at}
use lib.ListN.{length, length-set}
use native.Mathlib.Omega.{arith}
use Rattle.emit.proofs.head.write_entry.Goals as goal

pub bounds-out-at : goal.bounds-out-at
unfolding entry_at
bounds-out-at c = omega arith

pub overflow_add-at : goal.overflow_add-at
unfolding entry_at
overflow_add-at c = omega arith

pub write32-requires : goal.write32-requires
unfolding entry_at
write32-requires c = simp length-set (omega arith)

pub overflow_add-at-2 : goal.overflow_add-at-2
unfolding entry_at
overflow_add-at-2 c = omega arith

pub write32-requires-2 : goal.write32-requires-2
unfolding entry_at
write32-requires-2 c = omega (arith, simp length-set at c.write32.auto.b)

pub shape_of-out : goal.shape_of-out
shape_of-out c = omega (arith, simp length-set at c.write32.auto.b)

pub returns : goal.returns
unfolding entry_at
returns c =
    let out = c.args.out.now in
    let h : c.entry_at-at.result + contents_entry_size ≤ length out = omega arith in
    rw (← c.entry_at-at.ensures) (contents_written _ _ _ _ _ _ _ h c.write32.ensures
    c.write32-2.ensures)
