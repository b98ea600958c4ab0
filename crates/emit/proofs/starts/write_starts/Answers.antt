-- `emit::starts::write_starts` meets its contract. The loop's invariant: the starts from list v on are left to write, the first of them `start`. Assumes
-- nothing.
use Rattle.emit.proofs.Offsets.{starts_all, starts_step, start_latest, starts_end, start_wrote}
use Rattle.emit.proofs.Writing.{written_start, written_next, written_end}
use Rattle.emit.specs.PartLaws.{length_starts_of, length_sizes}
use Rattle.emit.specs.Parts.{list_sizes}
use Rattle.model.specs.Oracle.{start_size, list_size}
use native.Mathlib.Omega.{arith}
use mathlib.Core.Path.{ap, ◌∙◌}
use Prim.Native.Nat.{◌*◌}
use borrow.Author.Rules.{rules}
use Rattle.emit.proofs.starts.write_starts.Goals as goal

pub loop-v-init : goal.loop-v-init
loop-v-init c = (
  search rules,
  search rules,
  search rules,
  written_start (starts_all _ _)
      (omega (
        arith,
        length_starts_of (start_size * c.args.n) (list_sizes c.args.n c.args.counts.now),
        length_sizes c.args.n c.args.counts.now,
      )),
)

pub overflow_add-start : goal.overflow_add-start
overflow_add-start c =
    let a = c.args in
    let size = c.list_size-start.ensures ∙ ap list_size c.half_of.ensures.0 in
    omega (arith, start_latest a.counts.now a.n c.loop-v.v c.loop-v.start _ size (c.requires.0.2 c.loop-v.v c.loop-v-test.true) c.loop-v.invariant.1)

pub loop-v-preserved : goal.loop-v-preserved
loop-v-preserved c =
    let a = c.args in
    let size = c.list_size-start.ensures ∙ ap list_size c.half_of.ensures.0 in
    let more = start_latest a.counts.now a.n _ _ _ size (c.requires.0.2 _ c.loop-v-test.true) c.loop-v.invariant.1 in
    let next = starts_step a.counts.now a.n _ _ _ size c.loop-v-test.true in
    (search rules, more, search rules, written_next next c.loop-v.invariant.3 (start_wrote _ _ _ _ c.write32.ensures))

pub returns : goal.returns
returns c =
    let a = c.args in
    written_end (starts_end a.counts.now a.n _ _ c.loop-v-test.false) c.loop-v.invariant.3
