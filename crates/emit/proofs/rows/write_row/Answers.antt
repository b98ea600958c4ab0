-- `emit::rows::write_row` meets its contract. Assumes nothing.
use native.Mathlib.Omega.{arith}
use mathlib.Core.Path.{sym, ◌∙◌}
use borrow.Author.Rules.{rules}
use Rattle.emit.specs.PartLaws.{length_row}
use Rattle.emit.proofs.Pieces.{wrote_all}
use Rattle.bitset.specs.Members.{members_of}
use Rattle.words.specs.Regions.{times_in}
use Rattle.emit.proofs.rows.write_row.Goals as goal

pub row-requires : goal.row-requires
row-requires c =
    let a = c.args in
    (search rules, search rules, omega (arith, c.requires.2, length_row (times_in a.n a.work.now) (members_of a.n a.set.now)))

pub returns : goal.returns
returns c =
    let a = c.args in
    wrote_all c.row.ensures.0.wrote (c.requires.2 ∙ sym (length_row (times_in a.n a.work.now) (members_of a.n a.set.now))) (search rules)
