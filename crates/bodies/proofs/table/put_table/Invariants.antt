-- `bodies::table::put_table` meets its contract. Assumes nothing.
use mathlib.Core.Path.{◌≡◌}
use lib.ListN.{length}
use Rattle.emit.proofs.Turns.{members_from}
use Rattle.emit.proofs.Writing.{Written}
use Rattle.passes.specs.Building.{members_in}
use Rattle.words.specs.Regions.{region, transit, search_words}
use Rattle.model.specs.Lists.{concat_map}
use Rattle.words.specs.Frames.{KeptFrom}
use Rattle.bodies.proofs.Tables.{rows}
use Rattle.bodies.proofs.table.put_table.Given as goal

abbrev pub invariant-loop-v : goal.invariant-loop-v
invariant-loop-v l = (length l.work ≡ length l.initial.work) × (length l.out ≡ length l.initial.out) × (KeptFrom (search_words l.n) l.initial.work l.work) × Written
    (concat_map (rows l.edges l.n l.initial.work) (members_in l.n transit l.initial.work)) l.at l.out (members_from (rows l.edges l.n l.initial.work) (region l.n transit l.initial.work) l.n l.v)
