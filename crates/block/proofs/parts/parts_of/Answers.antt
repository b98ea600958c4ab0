-- `parts::parts_of` meets its contract: row by row.
use native.Mathlib.Omega.{arith}
use mathlib.Core.Path.{◌∙◌}
use mathlib.Core.List.{[], map}
use Rattle.block.specs.Block.{unused_row}
use Rattle.block.specs.Twelve.{twelve_more}
use Rattle.block.specs.Parts.{is_hops, part_of, parts_of}
use Rattle.block.proofs.PartLaws.{none_yet, all_done}
use borrow.Author.Rules.{rules}
use Rattle.block.proofs.parts.parts_of.Goals as goal

pub loop-i-init : goal.loop-i-init
loop-i-init c =
    let a = c.args in (omega arith, search rules, none_yet (map (part_of (is_hops a.part))) unused_row a.keys)

pub row_parts-requires : goal.row_parts-requires
row_parts-requires c = c.requires c.loop-i.i (omega arith)

pub loop-i-preserved : goal.loop-i-preserved
loop-i-preserved c =
    let a = c.args in (
      omega arith,
      c.loop-i.invariant.1,
      rw (c.loop-i.invariant.2, c.row_parts.ensures)
          (twelve_more (map (part_of (is_hops a.part))) unused_row [] a.keys c.loop-i.i (omega (arith, c.loop-i.invariant.1)) (omega arith)),
    )

pub returns : goal.returns
unfolding parts_of
returns c =
    let a = c.args in
    c.loop-i.invariant.2 ∙ all_done (map (part_of (is_hops a.part))) unused_row a.keys c.loop-i.i c.loop-i.invariant.1 (omega arith)
