-- `crossings::put_crossings` meets its contract: the edges at the nodes below v that lie inside are seen to.
use mathlib.Core.Path.{◌≡◌}
use lib.ListN.{length}
use Rattle.access.specs.Crossed.{Put}
use Rattle.access.proofs.Squares.{Inside}
use Rattle.access.proofs.crossings.put_crossings.Given as goal

abbrev pub invariant-loop-v : goal.invariant-loop-v
invariant-loop-v l = (length l.work ≡ length l.initial.work)
    × Put l.nodes l.edges l.square (Inside l.nodes l.edges l.square l.v) l.n l.k l.initial.work l.work
