-- `lines::line_edge` meets its contract: the number behind the first byte.
use Rattle.sheet.specs.Sheet.{line}
use Rattle.sheet.proofs.lines.line_edge.Goals as goal

pub returns : goal.returns
unfolding line
returns c = c.read16.ensures
