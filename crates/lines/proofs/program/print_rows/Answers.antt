-- `program::print_rows` meets its contract. Assumes nothing.
use borrow.Author.Rules.{rules}
use Rattle.lines.proofs.program.print_rows.Goals as goal

pub node_count-n-requires : goal.node_count-n-requires
node_count-n-requires g c = c.requires.0.shape

pub loop-s-init : goal.loop-s-init
loop-s-init g c = (search rules, c.requires.0, search rules, search rules)

pub print_row-requires : goal.print_row-requires
print_row-requires g c = (c.loop-s.invariant.1, search rules, search rules)

pub loop-s-preserved : goal.loop-s-preserved
loop-s-preserved g c = (
  c.loop-s.invariant.0,
  c.print_row.ensures,
  search
      rules,
  search rules,
)
