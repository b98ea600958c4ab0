-- What rule 20 says of the line that holds. Assumes nothing.
use Rattle.std.specs.Prelude.{◌≡◌, ◌↔◌, true, List}
use Rattle.std.proofs.Common.{sym, ◌∙◌}
use Rattle.model.specs.Bytes.{Bytes}
use Rattle.model.specs.Contents.{node_body, edge_body}
use Rattle.model.specs.Network.{node_count}
use Rattle.theory.specs.Passed.{Sound}
use Rattle.sheet.specs.Sheet.{Line, lines_in, line_body, holds, effects}
use Rattle.sheet.specs.Under.{network_under, slow_broken}
use Rattle.sheet.proofs.Lasts.{last_holds_law, left_open}
use Rattle.sheet.proofs.SlowLines.{quick, SlowEdge, slow→, →slow, slow_last}
use Rattle.sheet_demands.specs.SheetOutcomes.{Slowed}

module _ (o sheet : Bytes) (sound : Sound o) where
  abbrev lines : List Line
  lines = lines_in (line_body sheet)

  abbrev SlowOne : Type 0
  SlowOne = SlowEdge (holds lines) (edge_body o)

  -- What takes an edge over the limit is the last line about it, and none closes it.
  there : SlowOne → Slowed o sheet
  there z =
      let (k, l) = slow_last (edge_body o) lines (quick (node_count (node_body o)) (edge_body o) sound.some_edge) z in
      record {
        i = z.i;
        is_road = z.below;
        unclosed = left_open z.delays;
        line = k;
        last = l;
        added = z.added;
        delays = sym (last_holds_law (left_open z.delays) l) ∙ z.delays;
        over = z.over;
      }

  back : Slowed o sheet → SlowOne
  back z = record {
    i = z.i;
    below = z.is_road;
    added = z.added;
    delays = last_holds_law z.unclosed z.last ∙ z.delays;
    over = z.over;
  }

  pub slow_just : (slow_broken (effects sheet) o ≡ true) ↔ Slowed o sheet
  unfolding slow_broken network_under effects
  slow_just =
      (λ h. there (slow→ (holds lines) (edge_body o) h), λ z. →slow (holds lines) (edge_body o) (back z))
