-- `parts::row_parts` meets its contract: square by square.
use native.Mathlib.Omega.{arith}
use mathlib.Core.Path.{◌∙◌}
use Rattle.block.specs.Twelve.{twelve_more}
use Rattle.block.specs.Parts.{is_hops, part_of}
use Rattle.block.proofs.PartLaws.{none_yet, all_done}
use borrow.Author.Rules.{rules}
use Rattle.block.proofs.parts.row_parts.Goals as goal

pub loop-j-init : goal.loop-j-init
loop-j-init c =
    let a = c.args in (omega arith, search rules, none_yet (part_of (is_hops a.part)) 0 a.row)

pub part_of-requires : goal.part_of-requires
part_of-requires c = c.requires c.loop-j.j (omega arith)

pub loop-j-preserved : goal.loop-j-preserved
loop-j-preserved c =
    let a = c.args in
    (omega arith, c.loop-j.invariant.1, rw (c.loop-j.invariant.2, c.part_of.ensures) (twelve_more (part_of (is_hops a.part)) 0 0 a.row c.loop-j.j (omega (arith, c.loop-j.invariant.1)) (omega arith)))

pub returns : goal.returns
returns c =
    let a = c.args in
    c.loop-j.invariant.2 ∙ all_done (part_of (is_hops a.part)) 0 a.row c.loop-j.j c.loop-j.invariant.1 (omega arith)
