-- `emit::lists::write_list` meets its contract. Assumes nothing.
use native.Mathlib.Omega.{arith}
use mathlib.Core.Path.{sym, ◌∙◌}
use borrow.Author.Rules.{rules}
use Rattle.emit.specs.PartLaws.{length_list}
use Rattle.emit.proofs.Pieces.{wrote_all}
use Rattle.bitset.specs.Members.{members_of}
use Rattle.words.specs.Regions.{times_in}
use Rattle.emit.proofs.lists.write_list.Goals as goal

pub list-requires-clause-fits : goal.list-requires-clause-fits
list-requires-clause-fits c =
    let a = c.args in
    omega (arith, c.requires.among.1, length_list (times_in a.n a.work.now) (members_of a.n a.transit.now) (members_of a.n a.access.now))

pub returns : goal.returns
returns c =
    let a = c.args in
    wrote_all c.list.ensures.0.wrote
    (c.requires.among.1 ∙ sym (length_list (times_in a.n a.work.now) (members_of a.n a.transit.now) (members_of a.n a.access.now))) (search rules)
