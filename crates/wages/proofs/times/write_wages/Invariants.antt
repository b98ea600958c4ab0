-- `times::write_wages` meets its contract. The loop's invariant: the first i legs are written and tallied, and the oracle stays opened.
use mathlib.Core.Path.{◌≡◌}
use lib.ListN.{length}
use Rattle.model.specs.Contents.{node_body}
use Rattle.model.specs.Network.{node_count}
use Rattle.words.specs.Frames.{KeptFrom}
use Rattle.words.specs.Regions.{grid_at}
use Rattle.wages.specs.Wages.{leg_count}
use Rattle.wages.proofs.Paying.{Paying}
use Rattle.wages.proofs.times.write_wages.Given as goal

abbrev pub invariant-loop-i : goal.invariant-loop-i
invariant-loop-i l = (l.count ≡ leg_count l.legs) × (length l.work ≡ length l.initial.work) × KeptFrom (grid_at (node_count (node_body l.o))) l.initial.work l.work × (length l.out ≡ length l.initial.out)
    × Paying l.o l.legs l.initial.out l.i l.out l.tally
