-- `emit::head::write_head` meets its contract. The loop's invariant: what stands before entry k is written, and the entries from k on are left; the sizes that
-- are left fit the offset. Assumes nothing.
use Rattle.emit.specs.PartLaws.{length_head}
use Rattle.emit.proofs.Offsets.{contents_step, contents_end, total_step, head_start, head_wrote, contents_wrote}
use Rattle.emit.proofs.Writing.{written_start, written_next, written_end}
use Rattle.model.specs.Contents.{entry_at}
use lib.ListN.{length, length-set}
use native.Mathlib.Omega.{arith}
use mathlib.Core.Path.{refl, sym, ◌∙◌}
use Prim.Native.Nat.{◌<◌, ◌≤◌}
use borrow.Author.Rules.{rules}
use Rattle.emit.proofs.head.write_head.Goals as goal

pub bounds-out-0 : goal.bounds-out-0
unfolding entry_at
bounds-out-0 c = omega arith

pub bounds-out-1 : goal.bounds-out-1
unfolding entry_at
bounds-out-1 c = simp length-set (omega arith)

pub loop-k-init : goal.loop-k-init
loop-k-init c =
    let a = c.args in
    let long : 2 ≤ length a.out.now = unfold entry_at in omega arith in
    let start = written_start refl (c.requires.3 ∙ sym (length_head a.edition a.sizes.now)) in
    let two = head_wrote a.out.now a.edition (length a.sizes.now) long in (
      omega arith,
      refl,
      rw c.entry_at-offset.ensures c.requires.2,
      simp length-set c.requires.3,
      rw c.entry_at-offset.ensures (written_next (head_start a.edition a.sizes.now) start two),
    )

pub write_entry-requires : goal.write_entry-requires
write_entry-requires c = (search rules, unfold entry_at in omega arith)

pub overflow_add-offset : goal.overflow_add-offset
overflow_add-offset c =
    let a = c.args in
    omega (arith, total_step a.sizes.now c.loop-k.k c.loop-k.offset _ (omega arith) refl)

pub loop-k-preserved : goal.loop-k-preserved
loop-k-preserved c =
    let sizes = c.args.sizes.now in
    let below : c.loop-k.k < length sizes = omega arith in
    let next = contents_step sizes c.loop-k.k c.loop-k.offset _ below refl in (
      search rules,
      c.loop-k.invariant.1,
      omega (arith, total_step sizes c.loop-k.k c.loop-k.offset _ below refl),
      search rules,
      written_next next c.loop-k.invariant.4 (contents_wrote _ _ _ _ _ c.write_entry.ensures),
    )

pub returns : goal.returns
returns c =
    let sizes = c.args.sizes.now in
    let all : length sizes ≤ c.loop-k.k = omega arith in
    written_end (contents_end sizes _ _ all) c.loop-k.invariant.4
