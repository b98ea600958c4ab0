-- `bodies::lists::put_own` meets its contract. Assumes nothing.
use mathlib.Core.Path.{◌∙◌}
use borrow.Author.Rules.{rules}
use Rattle.words.proofs.Windows.{part_length}
use Rattle.bodies.proofs.Lent.{bytes_written}
use Rattle.bodies.proofs.lists.put_own.Goals as goal

pub write_own-requires : goal.write_own-requires
write_own-requires c =
    let a = c.args in
    let size = part_length c.list_start-start.result a.size a.body.now (search rules) in
    (search rules, search rules, c.requires.n_le_max_nodes.2, size ∙ c.requires.n_le_max_nodes.3, search rules)

pub returns : goal.returns
returns c =
    let a = c.args in
    rw (← c.list_start-start.ensures) (bytes_written c.list_start-start.result a.size a.body.now (search rules) c.write_own.new.out _ c.write_own.auto.out c.write_own.ensures)
