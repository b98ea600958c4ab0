-- `rows::write_lines` meets its contract. Assumes nothing.
use Rattle.lines.proofs.Turns.{begun_start, begun_fits, begun_next, begun_end}
use native.Mathlib.Omega.{arith}
use borrow.Author.Rules.{rules}
use Rattle.lines.proofs.rows.write_lines.Goals as goal

pub node_count-n-requires : goal.node_count-n-requires
node_count-n-requires c = c.requires.0.shape

pub loop-t-init : goal.loop-t-init
loop-t-init c = (search rules, search rules, begun_start _ _ _ c.requires.3)

pub write_line-at-requires : goal.write_line-at-requires
write_line-at-requires c = record {
  opened = (c.requires.0, c.requires.1, omega (arith, c.loop-t.invariant.0), c.requires.2);
  room = begun_fits _ _ c.loop-t.invariant.2
      (omega (arith, c.loop-t.invariant.0));
}

pub loop-t-preserved : goal.loop-t-preserved
loop-t-preserved c = (
  search rules,
  search rules,
  begun_next _ _ c.loop-t.invariant.2 (omega (arith, c.loop-t.invariant.0, c.loop-t-test.true))
      c.write_line-at.ensures,
)

pub returns : goal.returns
returns c = begun_end _ _ c.loop-t.invariant.2 (omega (arith, c.loop-t.invariant.0, c.loop-t-test.false))
