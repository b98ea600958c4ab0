-- `spans::block_lines` meets its contract.
use mathlib.Core.Path.{refl}
use Rattle.sheet.specs.Sheet.{line_count}
use Rattle.sheet.specs.Spans.{block_lines}
use Rattle.sheet.proofs.spans.block_lines.Goals as goal

pub returns : goal.returns
unfolding block_lines line_count
returns c = refl
